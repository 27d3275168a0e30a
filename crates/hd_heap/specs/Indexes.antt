-- Lists read as finite maps and sets by index.
use Rattle.std.specs.Prelude.{ℕ, zero, suc, ◌+◌, Bool, true, false, List, [], ◌∷◌, ◌++◌, map, Option, Some, None}
use Rattle.std.specs.FinSet.{FinSet, from_list}
use Rattle.std.specs.Ordering.{nat_cmp}

-- the indices of what is true, counted from a number on
abbrev pub flagged : ℕ → List Bool → List ℕ
flagged i [] = []
flagged i (true ∷ bs) = i ∷ flagged (i + 1) bs
flagged i (false ∷ bs) = flagged (i + 1) bs

-- the set of the indices of what is true
abbrev pub indexes_of : List Bool → FinSet nat_cmp
indexes_of bs = from_list (flagged 0 bs)

-- the items of a list by numbers from 1, with nothing at 0
abbrev pub from_one : {A : Type 0} → List A → List (Option A)
from_one xs = None ∷ map Some xs

-- the first n values of a function
unfoldable pub table : {A : Type 0} → ℕ → (ℕ → A) → List A
table zero f = []
table (suc n) f = f 0 ∷ table n (λ k. f (suc k))

-- a table of n values for each item, one after another
unfoldable pub tables : {A B : Type 0} → ℕ → (A → ℕ → B) → List A → List B
tables n f [] = []
tables n f (x ∷ xs) = table n (f x) ++ tables n f xs
