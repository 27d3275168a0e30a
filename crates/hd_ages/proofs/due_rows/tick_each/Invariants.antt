use Rattle.std.proofs.Common.{◌≡◌, ◌+◌}
use Rattle.hd_ages.proofs.due_rows.tick_each.Given as goal

abbrev pub invariant-loop-clump : goal.invariant-loop-clump
invariant-loop-clump g l = l.steps ≡ l.initial.steps + l._clump
