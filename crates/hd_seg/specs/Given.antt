-- Which block with a use is the next one.
use Rattle.std.specs.Prelude.{◌≡◌, ℕ, ◌<◌, ◌≤◌, IsSome, None}
use Rattle.std.specs.FinMap.{FinMap, get}
use Rattle.std.specs.Ordering.{nat_cmp}
use Rattle.hd_model.specs.State.{BlockUse}

-- the least block from one on that has a use
pub record IsNextGiven (uses : FinMap nat_cmp BlockUse) (from block : ℕ) : Type 0 where
  pub low : from ≤ block
  pub given : IsSome (get uses block)
  pub least : (b : ℕ) → from ≤ b → b < block → get uses b ≡ None

-- there is none
abbrev pub HasNoneGiven : FinMap nat_cmp BlockUse → ℕ → Type 0
HasNoneGiven uses from = (b : ℕ) → from ≤ b → get uses b ≡ None
