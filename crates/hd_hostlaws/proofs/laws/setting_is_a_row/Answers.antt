use Rattle.hd_hostlaws.proofs.SetRows.{setting_is_a_row}
use Rattle.hd_hostlaws.proofs.laws.setting_is_a_row.Goals as goal

pub returns : goal.returns
returns c = setting_is_a_row
