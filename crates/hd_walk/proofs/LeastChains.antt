-- The orders of chains, and what a least chain is.
use Rattle.std.specs.Prelude.{◌≡◌}
use Rattle.std.specs.Prelude.{ℕ}
use Rattle.std.specs.Prelude.{List}
use Rattle.std.specs.Prelude.{◌∷◌}
use Rattle.std.specs.Prelude.{◌<◌}
use Rattle.std.specs.Prelude.{◌⊎◌}
use Rattle.std.specs.Prelude.{length}
use Rattle.hd_walk.specs.Chains.{IsWalk}

-- where two lists differ first, the one has the lesser node
pub data IsLess (Less : ℕ → ℕ → Type 0) : List ℕ → List ℕ → Type 0 where
  less : {x y : ℕ} {xs ys : List ℕ} → Less x y → IsLess Less (x ∷ xs) (y ∷ ys)
  same : {x y : ℕ} {xs ys : List ℕ} → x ≡ y → IsLess Less xs ys → IsLess Less (x ∷ xs) (y ∷ ys)

-- one chain comes before another, or is the same
abbrev pub IsEarlier : (ℕ → ℕ → Type 0) → (ℕ → ℕ → Type 0) → ℕ → List ℕ → ℕ → List ℕ → Type 0
IsEarlier First Less x xs y ys =
    (length xs < length ys) ⊎ ((length xs ≡ length ys) × (First x y ⊎ ((x ≡ y) × IsLess Less xs ys)))

abbrev pub IsNoLater : (ℕ → ℕ → Type 0) → (ℕ → ℕ → Type 0) → ℕ → List ℕ → ℕ → List ℕ → Type 0
IsNoLater First Less x xs y ys = IsEarlier First Less x xs y ys ⊎ ((x ≡ y) × (xs ≡ ys))

-- a chain from a start to the goal, and none comes before it
pub record IsLeast (Leads : ℕ → ℕ → Type 0) (Start : ℕ → Type 0) (First Less : ℕ → ℕ → Type 0) (goal x : ℕ)
    (xs : List ℕ) : Type 0 where
  pub start : Start x
  pub walk : IsWalk Leads goal x xs
  pub least : (y : ℕ) (ys : List ℕ) → Start y → IsWalk Leads goal y ys → IsNoLater First Less x xs y ys
