-- A list of items, some of which are present, read as a finite map by index.
use Rattle.std.specs.Prelude.{ℕ, ◌+◌, List, [], ◌∷◌, Option, Some, None}
use Rattle.std.specs.FinMap.{FinMap, from_entries}
use Rattle.std.specs.Ordering.{nat_cmp}

-- the items that are present, each with its index, counted from a number on
abbrev pub numbered : {A : Type 0} → ℕ → List (Option A) → List (ℕ × A)
numbered i [] = []
numbered i (None ∷ xs) = numbered (i + 1) xs
numbered i (Some x ∷ xs) = (i, x) ∷ numbered (i + 1) xs

-- the map from indices to the items that are present
abbrev pub by_index : {A : Type 0} → List (Option A) → FinMap nat_cmp A
by_index xs = from_entries (numbered 0 xs)
