use Rattle.hd_cells.proofs.Basics.{arith}
use Rattle.hd_cells.proofs.Contents.{opened, laid_out}
use Rattle.hd_cells.proofs.CellWalk.{start_reached, first_seen, none_past}
use Rattle.hd_cells.proofs.region.Region.walk.Goals as goal

pub first_from-requires : goal.first_from-requires
first_from-requires c = record {
  within = c.self.invariant.region.within;
  reached = start_reached c.self.inside.cells c.self.inside.fill c.args.from c.self.invariant.region;
}

pub returns-then-from-self : goal.returns-then-from-self
returns-then-from-self c =
    let read = opened c.self.told c.self.invariant c.self.view_is in
    record {
      first = none_past read c.args.from (omega (arith, c.if-from-self.true));
      laid_out = laid_out read;
    }

pub returns : goal.returns
returns c = record {
  first = first_seen c.self.inside.cells c.self.inside.fill c.args.self.now c.args.from c.first_from.result
      c.self.view_is c.first_from.ensures;
  laid_out = laid_out (opened c.self.told c.self.invariant c.self.view_is);
}
