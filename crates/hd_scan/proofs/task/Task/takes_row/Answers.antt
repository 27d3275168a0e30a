use Rattle.hd_scan.proofs.Basics.{◌∙◌}
use Rattle.hd_scan.proofs.TaskRoles.{takes_all, takes_read}
use Rattle.hd_scan.proofs.task.Task.takes_row.Goals as goal

pub returns-then-not-paired : goal.returns-then-not-paired
returns-then-not-paired c h of_kind is = takes_all c.args.self h of_kind (c.requires ∙ c.if-not-paired.true)

pub returns : goal.returns
returns c h of_kind is = c.takes.ensures ∙ takes_read c.args.self h of_kind c.args.row is
