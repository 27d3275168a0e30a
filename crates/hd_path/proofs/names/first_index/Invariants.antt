use Rattle.std.proofs.Common.{ℕ, ◌<◌}
use Rattle.hd_path.specs.Inside.{IsAt}
use Rattle.hd_path.proofs.names.first_index.Given as goal

abbrev pub invariant-loop-i : goal.invariant-loop-i
invariant-loop-i l = record { none : (k : ℕ) → k < l.i → IsAt l.targets l.id k → ⊥ }
