use Rattle.std.proofs.Common.{◌≤◌}
use Rattle.hd_view.proofs.accepted.count_free.Given as goal

abbrev pub invariant-loop-row : goal.invariant-loop-row
invariant-loop-row l = l.count ≤ l.row
