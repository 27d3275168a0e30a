use Rattle.hd_cells.proofs.Basics.{Contents, ap}
use Rattle.hd_cells.proofs.Contents.{opened, laid_out}
use Rattle.hd_cells.proofs.region.Region.fill.Goals as goal

pub returns : goal.returns
returns c = record {
  value = ap (λ (x : Contents). x.fill) c.self.view_is;
  laid_out = laid_out (opened c.self.told c.self.invariant c.self.view_is);
}
