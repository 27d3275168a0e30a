use Rattle.std.proofs.Common.{◌≡◌}
use Rattle.hd_run_rows.proofs.world.apply_all.Given as goal

abbrev pub invariant-loop-line : goal.invariant-loop-line
invariant-loop-line g l = l.world.numbers.callers ≡ 1
