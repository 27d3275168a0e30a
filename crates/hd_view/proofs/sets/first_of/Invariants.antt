use Rattle.std.proofs.Common.{ℕ, ◌<◌}
use Rattle.hd_view.proofs.sets.first_of.Given as goal

abbrev pub invariant-loop-number : goal.invariant-loop-number
invariant-loop-number g l = (x : ℕ) → x < l.number → g.T.Test.tells l.test x → ⊥
