use Rattle.hd_cells.proofs.Basics.{HEADER, arith, object_at, with_field, ◌+◌}
use Rattle.hd_cells.proofs.Contents.{opened, held, new_laid_out}
use Rattle.hd_cells.proofs.{CellWrites.field_written, ObjectStarts.whole_written}
use Rattle.hd_cells.proofs.ClearedCells.{cleared_within}
use Rattle.hd_cells.proofs.region.Region.set_field.Goals as goal

pub bounds-self-inside-index : goal.bounds-self-inside-index
bounds-self-inside-index c =
    let h = held (opened c.self.told c.self.invariant c.self.view_is) c.args.at c.requires.object in
    omega (arith, h.high, h.within, h.count, c.requires.within)

pub returns : goal.returns
returns c =
    rw c.from.ensures
    (let new = field_written (opened c.self.told c.self.invariant c.self.view_is) c.args.at
    c.requires.object c.args.i c.args.v c.requires.within c.ranges.v.fits in
    record { written = new.view; laid_out = new_laid_out new })

pub invariant_of-self : goal.invariant_of-self
invariant_of-self c =
    let read = opened c.self.told c.self.invariant c.self.view_is in
    rw c.from.ensures
    (whole_written read c.self.invariant c.self.told.1 c.args.at
    (with_field (object_at c.args.self.now c.args.at) c.args.i c.args.v) c.requires.object
    (field_written read c.args.at c.requires.object c.args.i c.args.v c.requires.within c.ranges.v.fits)
    (cleared_within read c.args.at c.requires.object (c.args.at + HEADER + c.args.i) c.args.v
    (omega (arith, (held read c.args.at c.requires.object).count, c.requires.within)) c.self.invariant.cleared))
