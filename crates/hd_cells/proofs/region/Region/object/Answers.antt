use Rattle.hd_cells.proofs.Basics.{arith}
use Rattle.hd_cells.proofs.Contents.{opened, object_inside, object_cells}
use Rattle.hd_cells.proofs.region.Region.object.Goals as goal

pub slice_bounds-result-count : goal.slice_bounds-result-count
slice_bounds-result-count c =
    omega (arith, object_inside (opened c.self.told c.self.invariant c.self.view_is) c.args.at c.requires)

pub slice_bounds-result-start : goal.slice_bounds-result-start
slice_bounds-result-start c =
    omega (arith, object_inside (opened c.self.told c.self.invariant c.self.view_is) c.args.at c.requires)

pub returns : goal.returns
returns c =
    object_cells (opened c.self.told c.self.invariant c.self.view_is) c.args.at c.requires
