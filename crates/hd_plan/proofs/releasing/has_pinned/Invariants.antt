use Rattle.hd_plan.proofs.Basics.{condemned_at, false, ℕ, ◌<◌, ◌≡◌}
use Rattle.hd_plan.proofs.releasing.has_pinned.Given as goal

abbrev pub invariant-loop-region : goal.invariant-loop-region
invariant-loop-region l = (k : ℕ) → k < l.region-index → (condemned_at l.regions k).pinned ≡ false
