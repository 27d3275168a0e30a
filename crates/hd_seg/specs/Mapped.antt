-- The finite map of a function's values at some numbers.
use Rattle.std.specs.Prelude.{ℕ, zero, suc, ◌+◌, List, [], ◌∷◌, Option, Some, None}
use Rattle.std.specs.FinMap.{FinMap, from_entries}
use Rattle.std.specs.Ordering.{nat_cmp}

-- a key with its value, if it has one, before other entries
abbrev pub with_entry : {X : Type 0} → ℕ → Option X → List (ℕ × X) → List (ℕ × X)
with_entry k None es = es
with_entry k (Some x) es = (k, x) ∷ es

-- the entries of n keys from `first` on
unfoldable pub entries_of : {X : Type 0} → ℕ → ℕ → (ℕ → Option X) → List (ℕ × X)
entries_of first zero f = []
entries_of first (suc n) f = with_entry first (f first) (entries_of (first + 1) n f)

-- the map of f's values at n numbers from `first` on
unfoldable pub mapped : {X : Type 0} → ℕ → ℕ → (ℕ → Option X) → FinMap nat_cmp X
mapped first n f = from_entries (entries_of first n f)
