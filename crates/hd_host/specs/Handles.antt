-- Handles by value: a slot in the low 24 bits, and above them the stamp that the slot had when the handle was
-- made. The stamp of a slot is how often a handle in it was freed. This project's own, as GCHandle's by value
-- (FromIntPtr) has no stamp.
use Rattle.std.specs.Prelude.{◌≡◌, ℕ, ◌+◌, ◌-◌, ◌*◌, ◌≤◌, ◌^◌, slice_index, Some, IsSome, ◌/◌, List, ◌++◌, length, map, replicate}
use Rattle.hd_model.specs.declared.data.Slot.{Slot}
use Rattle.hd_model.specs.declared.limits.TheConstants.{ROWS}
use Rattle.hd_model.specs.State.{handle_at}
use Rattle.hd_model.specs.Handles.{handle_of as handle_seen}
use Rattle.hd_host.specs.declared.handle.Handle.{Handle}
use Rattle.hd_host.specs.declared.observing.Listed.{Listed}
use Rattle.hd_host.specs.View.{HostView}
use Rattle.hd_host.specs.declared.stamps.TheConstants.{FREE}

-- the handle in a slot with a stamp
abbrev pub stamped : Slot → ℕ → Handle
stamped slot stamp = record { 0 = stamp * 2 ^ 24 + slot.0 }

-- the stamps of slots, by their entries, each of which is a stamp above 24 bits
abbrev pub stamps_in : List ℕ → List ℕ
stamps_in = map (λ entry. entry / 2 ^ 24)

-- the entries of slots with those of all slots that a host may have, in the others of which no handle was made
abbrev pub padded : (limit : ℕ) → List ℕ → List ℕ
padded limit entries = entries ++ replicate (ROWS * (limit + 1) - length entries) FREE

-- the stamp of a slot
abbrev pub stamp_of : HostView → Slot → ℕ
stamp_of v slot = slice_index v.stamps slot.0

-- the handle that a slot has, if it is live
abbrev pub handle_of : HostView → Slot → Handle
handle_of v slot = stamped slot (stamp_of v slot)

-- a handle is that of a live slot
pub record IsOf (v : HostView) (handle : Handle) (slot : Slot) : Type 0 where
  pub live : IsSome (handle_at v.machine.state slot)
  pub is : handle ≡ handle_of v slot

-- a handle is that of no live slot: it was never made, or it was freed
abbrev pub IsStale : HostView → Handle → Type 0
IsStale v handle = (slot : Slot) → IsOf v handle slot → ⊥

-- the live handle with the least slot from a number on
pub record IsNextFrom (v : HostView) (from : ℕ) (listed : Listed) : Type 0 where
  pub from_on : from ≤ listed.slot.0
  pub handle : IsOf v listed.handle listed.slot
  pub info : handle_at v.machine.state listed.slot ≡ Some (handle_seen listed.info)
  pub least : (other : Slot) → from ≤ other.0 → IsSome (handle_at v.machine.state other)
      → listed.slot.0 ≤ other.0

-- no slot from a number on is live
abbrev pub HasNoneFrom : HostView → ℕ → Type 0
HasNoneFrom v from = (slot : Slot) → from ≤ slot.0 → IsSome (handle_at v.machine.state slot) → ⊥
