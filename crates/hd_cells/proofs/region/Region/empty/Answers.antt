use Rattle.hd_cells.proofs.Basics.{CELLS, replicate}
use Rattle.hd_cells.proofs.CellWrites.{reset_seen, reset_whole, reset_laid_out}
use Rattle.hd_cells.proofs.ClearedCells.{cleared_empty}
use Rattle.hd_cells.proofs.region.Region.empty.Goals as goal

pub returns : goal.returns
returns c = record { empty = reset_seen (replicate CELLS 0); laid_out = reset_laid_out (replicate CELLS 0) }

pub invariant_of-result : goal.invariant_of-result
invariant_of-result c =
    reset_whole (replicate CELLS 0) c.no_starts.result c.no_starts.ensures cleared_empty
