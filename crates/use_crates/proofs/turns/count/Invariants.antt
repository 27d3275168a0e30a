use Rattle.std.proofs.Common.{◌≡◌, false}
use Rattle.use_crates.proofs.turns.count.Given as goal

abbrev pub invariant-loop-round : goal.invariant-loop-round
invariant-loop-round l = l.end.view.has_gate ≡ false
