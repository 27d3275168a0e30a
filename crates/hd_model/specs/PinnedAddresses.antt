-- The pinned addresses of the machine. `addr` returns one only for an object that a handle pins (.NET's
-- GCHandle.AddrOfPinnedObject), and the object keeps it while a handle pins it.
use Rattle.std.specs.Prelude.{◌≡◌, ℕ, ◌+◌, ◌<◌, ◌^◌, ◌==◌, ◌&&◌, Bool, false, Option, Some, None, MatchOption}
use Rattle.std.specs.List.{list_any}
use Rattle.std.specs.FinMap.{FinMap, get, values}
use Rattle.std.specs.Ordering.{nat_cmp}
use Rattle.hd_model.specs.Data.{Id}
use Rattle.hd_model.specs.State.{Object, Handle, State, object_by_id, size_of}
use Rattle.hd_model.specs.Role.{pins}

-- the cells of an object at an address: the first one, and the first one after them (this project's own)
pub record Range : Type 0 where
  pub first : ℕ
  pub end : ℕ

abbrev pub range_at : {N : Type 0} → ℕ → Object N → Range
range_at address object = record { first = address; end = address + size_of object }

-- two ranges share a cell; ranges that only touch do not
pub record Meet (a b : Range) : Type 0 where
  pub left : a.first < b.end
  pub right : b.first < a.end

-- a free address for an object: below 2^32, and there its cells are apart from those of every pinned address
pub record IsFreeAddress (s : State) (x : Id) (address : ℕ) : Type 0 where
  pub small : address < 2 ^ 32
  pub apart :
      (y : Id) (other : ℕ) → get s.pinned y.0 ≡ Some other
      → Meet (range_at address (object_by_id s x)) (range_at other (object_by_id s y)) → ⊥

-- what `addr` may return for an object: its pinned address where it has one, and else a free address
abbrev pub MayReturn : State → Id → ℕ → Type 0
MayReturn s x address = MatchOption (get s.pinned x.0) (IsFreeAddress s x address) (λ own. address ≡ own)

-- whether a target has an identity, given as a number
abbrev pub is_target : ℕ → Option Id → Bool
is_target x None = false
is_target x (Some y) = y.0 == x

-- whether some handle pins the object with an identity, given as a number
abbrev pub is_pinned : FinMap nat_cmp (Handle Id) → ℕ → Bool
is_pinned handles x = list_any (λ h. pins h && is_target x h.target) (values handles)

-- the state with other pinned addresses
abbrev pub with_pinned : State → FinMap nat_cmp ℕ → State
with_pinned s pinned = record s { pinned = pinned }
