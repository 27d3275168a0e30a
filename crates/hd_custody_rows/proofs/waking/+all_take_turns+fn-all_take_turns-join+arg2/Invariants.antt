use Rattle.std.proofs.Common.{◌*◌, ◌+◌}
use Rattle.hd_custody_rows.proofs.waking.+all_take_turns+fn-all_take_turns-join+arg2.Given as goal

abbrev pub decreases-join+arg2 : goal.decreases-join+arg2
decreases-join+arg2 g l = 2 * l.more

abbrev pub decreases-all_take_turns : goal.decreases-all_take_turns
decreases-all_take_turns g l = 2 * l.more + 1
