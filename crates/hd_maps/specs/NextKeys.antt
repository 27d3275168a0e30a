-- The keys of a map that are next to a number.
use Rattle.std.specs.Prelude.{ℕ, Option, ◌≡◌, None, ◌<◌, ◌≤◌, IsSome, MatchOption}
use Rattle.std.specs.FinMap.{FinMap, get}
use Rattle.std.specs.Ordering.{nat_cmp}

-- k is the least key from a number on
pub record IsLeastKey {X : Type 0} (m : FinMap nat_cmp X) (number k : ℕ) : Type 0 where
  pub from : number ≤ k
  pub has : IsSome (get m k)
  pub none : (q : ℕ) → number ≤ q → q < k → get m q ≡ None

-- k is the greatest key up to a number
pub record IsGreatestKey {X : Type 0} (m : FinMap nat_cmp X) (number k : ℕ) : Type 0 where
  pub to : k ≤ number
  pub has : IsSome (get m k)
  pub none : (q : ℕ) → k < q → q ≤ number → get m q ≡ None

-- the least key from a number on, if there is one
abbrev pub IsLeastFrom : {X : Type 0} → FinMap nat_cmp X → ℕ → Option ℕ → Type 0
IsLeastFrom m number o = MatchOption o ((q : ℕ) → number ≤ q → get m q ≡ None) (IsLeastKey m number)

-- the greatest key up to a number, if there is one
abbrev pub IsGreatestTo : {X : Type 0} → FinMap nat_cmp X → ℕ → Option ℕ → Type 0
IsGreatestTo m number o = MatchOption o ((q : ℕ) → q ≤ number → get m q ≡ None) (IsGreatestKey m number)
