use Rattle.hd_hostlaws.proofs.MadeRows.{making_is_a_row}
use Rattle.hd_hostlaws.proofs.laws.making_is_a_row.Goals as goal

pub returns : goal.returns
returns c = making_is_a_row
