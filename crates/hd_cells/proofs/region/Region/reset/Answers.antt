use Rattle.hd_cells.proofs.CellWrites.{reset_seen, reset_whole, reset_laid_out}
use Rattle.hd_cells.proofs.{Basics.arith, ClearedCells.cleared_reset}
use Rattle.hd_cells.proofs.region.Region.reset.Goals as goal

pub returns : goal.returns
returns c =
    record { empty = reset_seen c.self.inside.cells; laid_out = reset_laid_out c.self.inside.cells }

pub invariant_of-self : goal.invariant_of-self
invariant_of-self c =
    reset_whole c.self.inside.cells c.no_starts-self-inside.result c.no_starts-self-inside.ensures
    (cleared_reset c.max-self-inside.result c.self.invariant.cleared (omega (arith, c.max-self-inside.ensures))
    (omega (arith, c.max-self-inside.ensures))
    (omega (arith, c.max-self-inside.ensures, c.self.invariant.region.within, c.self.invariant.cleared.within)))
