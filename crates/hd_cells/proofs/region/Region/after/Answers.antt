use Rattle.hd_cells.proofs.Basics.{IsReached, arith, subst, sym, ℕ, ◌+◌}
use Rattle.hd_cells.proofs.Contents.{opened, object_inside, laid_out}
use Rattle.hd_cells.proofs.CellWalk.{object_passed, reached_within, first_seen}
use Rattle.hd_cells.proofs.region.Region.after.Goals as goal

pub extent-requires : goal.extent-requires
extent-requires c =
    omega (arith, object_inside (opened c.self.told c.self.invariant c.self.view_is) c.args.at c.requires)

pub overflow_add-next : goal.overflow_add-next
overflow_add-next c =
    let next = object_passed (opened c.self.told c.self.invariant c.self.view_is) c.args.at c.requires in
    let low = reached_within c.self.inside.cells c.self.inside.fill (c.args.at + 1) _ next in
    omega (arith, low, c.extent.ensures, c.self.invariant.region.within)

pub first_from-requires : goal.first_from-requires
first_from-requires c = record {
  within = c.self.invariant.region.within;
  reached =
      let P : ℕ → Type 0 = λ n. IsReached c.self.inside.cells c.self.inside.fill (c.args.at + 1)
      (c.args.at + n) in
      subst P (sym c.extent.ensures)
      (object_passed (opened c.self.told c.self.invariant c.self.view_is) c.args.at c.requires);
}

pub returns : goal.returns
returns c = record {
  first = first_seen c.self.inside.cells c.self.inside.fill c.args.self.now
      (c.args.at + 1) c.first_from.result c.self.view_is c.first_from.ensures;
  laid_out = laid_out (opened c.self.told c.self.invariant c.self.view_is);
}
