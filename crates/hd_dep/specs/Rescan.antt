-- The passes of a rescan (CoreCLR's dependent handle scan, which goes on while a pass promotes something).
use Rattle.std.specs.Prelude.{◌≡◌, ℕ, ◌+◌, ◌*◌, ◌≤◌, Bool, true, false}
use Rattle.hd_model.specs.{Counting.Counts}

-- the steps of a rescan: whole passes over the visited clumps, at least one, and at most one more than the
-- objects that it promoted
pub record RescanSteps {N : Type 0} (visits : ℕ) (p q : N → Bool) (old new : ℕ) : Type 0 where
  pub promoted : ℕ
  pub counts : Counts (λ x. (q x ≡ true) × (p x ≡ false)) promoted
  pub passes : ℕ
  pub least : 1 ≤ passes
  pub most : passes ≤ 1 + promoted
  pub steps_are : new ≡ old + passes * visits
