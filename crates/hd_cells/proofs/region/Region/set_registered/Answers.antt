use Rattle.hd_cells.proofs.Basics.{arith, object_at, with_registered, ◌+◌}
use Rattle.hd_cells.proofs.Contents.{opened, object_inside, new_laid_out}
use Rattle.hd_cells.proofs.{CellWrites.registration_written, ObjectStarts.whole_written}
use Rattle.hd_cells.proofs.ClearedCells.{cleared_within}
use Rattle.hd_cells.proofs.region.Region.set_registered.Goals as goal

pub bounds-self-inside-index : goal.bounds-self-inside-index
bounds-self-inside-index c =
    omega (arith, object_inside (opened c.self.told c.self.invariant c.self.view_is) c.args.at c.requires)

pub bounds-self-inside-index-2 : goal.bounds-self-inside-index-2
bounds-self-inside-index-2 c =
    omega (arith, object_inside (opened c.self.told c.self.invariant c.self.view_is) c.args.at c.requires)

pub returns : goal.returns
returns c =
    let new = registration_written (opened c.self.told c.self.invariant c.self.view_is)
    c.args.at c.requires c.args.on c.shape.result c.shape.ensures in
    record { written = new.view; laid_out = new_laid_out new }

pub invariant_of-self : goal.invariant_of-self
invariant_of-self c =
    let read = opened c.self.told c.self.invariant c.self.view_is in
    whole_written read c.self.invariant c.self.told.1 c.args.at
    (with_registered (object_at c.args.self.now c.args.at) c.args.on) c.requires
    (registration_written read c.args.at c.requires c.args.on c.shape.result c.shape.ensures)
    (cleared_within read c.args.at c.requires (c.args.at + 1) c.shape.result (omega arith)
    c.self.invariant.cleared)
