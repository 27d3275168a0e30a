-- What a walk has found, in the order in which it found it.
use Rattle.std.specs.Prelude.{◌≡◌, ◌≢◌, ℕ, suc, zero, ◌+◌, ◌^◌, ◌<◌, ◌==◌, Bool, cond, List, [], ◌∷◌, ◌++◌, slice_get, Option, Some, None, AllPairs}
use Rattle.std.specs.List.{list_any}
use Rattle.hd_walk.specs.declared.trail.Found.{Found}

-- an index as it is kept: 0 is none, and one more is the index
abbrev pub before_of : ℕ → Option ℕ
before_of zero = None
before_of (suc i) = Some i

-- found nodes as they are kept: by the nodes and their marks
abbrev pub found_by : List ℕ → List ℕ → List Found
found_by [] marks = []
found_by (y ∷ ys) [] = []
found_by (y ∷ ys) (mark ∷ marks) = record { at = y; before = before_of mark } ∷ found_by ys marks

-- an index, if there is one, which with one more is a word
abbrev pub IsIndex : Option ℕ → Type 0
IsIndex before = (i : ℕ) → before ≡ Some i → i + 1 < 2 ^ 64

-- whether a node is among the found ones
abbrev pub is_found : List Found → ℕ → Bool
is_found found y = list_any (λ (x : Found). y == x.at) found

-- the found nodes with one more, unless it was among them
abbrev pub with_found : List Found → ℕ → Option ℕ → List Found
with_found found y before = cond (is_found found y) found (found ++ record { at = y; before = before } ∷ [])

-- so with all of a list, in turn
abbrev pub with_all : List Found → List ℕ → Option ℕ → List Found
with_all found [] before = found
with_all found (y ∷ ys) before = with_all (with_found found y before) ys before

-- each is found once
abbrev pub IsOnce : List Found → Type 0
IsOnce found = AllPairs (λ (x y : Found). x.at ≢ y.at) found

-- the one before a found node was found earlier
abbrev pub IsFalling : List Found → Type 0
IsFalling found = (i j : ℕ) (x : Found) → slice_get found i ≡ Some x → x.before ≡ Some j → j < i

-- a node is not among the first of the found ones; and the first index at which it is
abbrev pub IsNotBefore : List Found → ℕ → ℕ → Type 0
IsNotBefore found y n = (i : ℕ) (x : Found) → i < n → slice_get found i ≡ Some x → x.at ≢ y

pub record IsFirstAt (found : List Found) (y i : ℕ) : Type 0 where
  pub one : Found
  pub is_one : slice_get found i ≡ Some one
  pub at_is : one.at ≡ y
  pub first : IsNotBefore found y i

-- a chain read from its end: from found node `last`, each is followed by the one before it
pub data IsReadBack (found : List Found) : Option ℕ → List ℕ → Type 0 where
  start : IsReadBack found None []
  step : {i : ℕ} {rest : List ℕ} → (x : Found) → slice_get found i ≡ Some x
      → IsReadBack found x.before rest → IsReadBack found (Some i) (x.at ∷ rest)
