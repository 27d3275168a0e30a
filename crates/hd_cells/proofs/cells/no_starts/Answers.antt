use Rattle.hd_cells.proofs.Basics.{NONE, PARTS, get_or-replicate}
use Rattle.hd_cells.proofs.cells.no_starts.Goals as goal

pub returns : goal.returns
returns c = λ k below. get_or-replicate PARTS k NONE 0 below
