use Rattle.hd_rows.proofs.Made.{full_empty}
use Rattle.hd_rows.proofs.state.empty.Goals as goal

pub returns : goal.returns
returns c = full_empty c.in_ok-heap.heap 100000 c.in_ok-heap.ensures
