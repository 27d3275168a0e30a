use Rattle.hd_plan.proofs.Basics.{condemned_at, ℕ, ◌<◌, ◌≡◌}
use Rattle.hd_plan.proofs.carding.are_alike.Given as goal

abbrev pub invariant-loop-region : goal.invariant-loop-region
invariant-loop-region l = (k : ℕ) → k < l.region-index
    → (condemned_at l.regions k).generation ≡ (condemned_at l.regions 0).generation
