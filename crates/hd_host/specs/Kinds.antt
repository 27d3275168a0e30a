-- Live handles of some kinds, in the order of their slots.
use Rattle.std.specs.Prelude.{◌≡◌, ℕ, ◌+◌, ◌*◌, ◌<◌, ◌≤◌, Bool, true, None, Option, Some, MatchOption}
use Rattle.std.specs.Int.{bit_at}
use Rattle.hd_model.specs.{declared.data.Id.Id, declared.data.Slot.Slot, declared.limits.TheConstants.ROWS, Kinds.kind_number}
use Rattle.hd_model.specs.Handles.{handle_of as handle_seen}
use Rattle.hd_model.specs.State.{Handle, State, handle_at}
use Rattle.hd_host.specs.declared.observing.Listed.{Listed}
use Rattle.hd_host.specs.Handles.{IsOf}
use Rattle.hd_host.specs.View.{HostView}

-- a slot has a handle; where `cleared`, one whose target is null
pub record HasHandle (s : State) (cleared : Bool) (slot : Slot) : Type 0 where
  pub handle : Handle Id
  pub live : handle_at s slot ≡ Some handle
  pub is_cleared : cleared ≡ true → handle.target ≡ None

-- and one of some kinds, by a mask of their numbers
pub record IsHandleOf (s : State) (kinds : ℕ) (cleared : Bool) (slot : Slot) : Type 0 where
  pub has : HasHandle s cleared slot
  pub of_kinds : bit_at kinds (kind_number has.handle.kind) ≡ 1

-- the one with the least slot from a number on
pub record IsNextOf (s : State) (kinds : ℕ) (cleared : Bool) (from : ℕ) (slot : Slot) : Type 0 where
  pub is : IsHandleOf s kinds cleared slot
  pub from_on : from ≤ slot.0
  pub least : (other : Slot) → from ≤ other.0 → IsHandleOf s kinds cleared other → slot.0 ≤ other.0

-- none from a number on
abbrev pub HasNoneOf : State → ℕ → Bool → ℕ → Type 0
HasNoneOf s kinds cleared from = (slot : Slot) → from ≤ slot.0 → IsHandleOf s kinds cleared slot → ⊥

-- as it is listed
pub record IsListedOf (v : HostView) (kinds : ℕ) (cleared : Bool) (from : ℕ) (listed : Listed) : Type 0 where
  pub next : IsNextOf v.machine.state kinds cleared from listed.slot
  pub handle : IsOf v listed.handle listed.slot
  pub info : handle_at v.machine.state listed.slot ≡ Some (handle_seen listed.info)

-- none from a number on up to another
abbrev pub HasNoneBefore : State → ℕ → Bool → (from end : ℕ) → Type 0
HasNoneBefore s kinds cleared from end =
    (slot : Slot) → from ≤ slot.0 → slot.0 < end → IsHandleOf s kinds cleared slot → ⊥

-- the first row of a block from one on that has a handle, or none
abbrev pub HasAt : State → Bool → (block row : ℕ) → Type 0
HasAt s cleared block row = HasHandle s cleared (record { 0 = ROWS * block + row })

pub record IsFirstIn (s : State) (cleared : Bool) (block first row : ℕ) : Type 0 where
  pub from_on : first ≤ row
  pub within : row < ROWS
  pub has : HasAt s cleared block row
  pub least : (k : ℕ) → first ≤ k → k < row → HasAt s cleared block k → ⊥

abbrev pub IsFirstRow : State → Bool → (block first : ℕ) → Option ℕ → Type 0
IsFirstRow s cleared block first answer =
    MatchOption answer ((k : ℕ) → first ≤ k → k < ROWS → HasAt s cleared block k → ⊥)
    (IsFirstIn s cleared block first)
