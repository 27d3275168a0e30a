-- The number of things with a property.
use Rattle.std.specs.Prelude.{◌≡◌, ◌≢◌, ℕ, List, length, Contains, AllPairs}

-- exactly c things have the property: they are in a list, each once
pub record Counts {A : Type 0} (P : A → Type 0) (c : ℕ) : Type 0 where
  pub members : List A
  pub apart : AllPairs (λ x y. x ≢ y) members
  pub each : (x : A) → Contains members x → P x
  pub all : (x : A) → P x → Contains members x
  pub number : length members ≡ c
