use Rattle.hd_cells.proofs.Basics.{HEADER, arith, count_at, ◌+◌}
use Rattle.hd_cells.proofs.Contents.{opened, object_below, object_inside, new_laid_out}
use Rattle.hd_cells.proofs.ClearedCells.{cleared_set}
use Rattle.hd_cells.proofs.{CellWrites.object_removed, ObjectStarts.whole_removed}
use Rattle.hd_cells.proofs.region.Region.remove.Goals as goal

pub bounds-self-inside-at : goal.bounds-self-inside-at
bounds-self-inside-at c =
    omega (arith, object_inside (opened c.self.told c.self.invariant c.self.view_is) c.args.at c.requires)

pub bounds-self-inside-at-2 : goal.bounds-self-inside-at-2
bounds-self-inside-at-2 c =
    omega (arith, object_inside (opened c.self.told c.self.invariant c.self.view_is) c.args.at c.requires)

pub bounds-self-inside-at-3 : goal.bounds-self-inside-at-3
bounds-self-inside-at-3 c =
    omega (arith, object_inside (opened c.self.told c.self.invariant c.self.view_is) c.args.at c.requires)

pub bounds-self-inside-part_of : goal.bounds-self-inside-part_of
bounds-self-inside-part_of c =
    let inside = object_inside (opened c.self.told c.self.invariant c.self.view_is) c.args.at c.requires in
    omega (arith, inside, c.part_of.ensures)

pub returns : goal.returns
returns c =
    let new = object_removed (opened c.self.told c.self.invariant c.self.view_is) c.args.at c.requires in
    record { removed = new.view; laid_out = new_laid_out new }

pub invariant_of-self : goal.invariant_of-self
invariant_of-self c =
    let read = opened c.self.told c.self.invariant c.self.view_is in
    whole_removed read c.self.invariant c.self.told.1 c.args.at c.part_of.result c.part_of.ensures c.requires
    (object_removed read c.args.at c.requires)
    (let below = object_below read c.args.at c.requires in
    cleared_set (c.args.at + 1) (count_at c.self.inside.cells c.args.at + HEADER)
    (cleared_set c.args.at 0 c.self.invariant.cleared (omega (arith, below))) (omega (arith, below)))
