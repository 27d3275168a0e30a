-- What is always true of a host, over what contracts see of it.
use Rattle.std.proofs.Common.{List, None, Some, ap, arith, is_some, length, subst, ℕ, ◌*◌, ◌+◌, ◌/◌, ◌<◌, ◌^◌, ◌∙◌, ◌≡◌, ◌≤◌}
use Rattle.std.proofs.lemmas.List.{length-map}
use Rattle.std.specs.Prelude.{IsSome}
use Rattle.hd_model.proofs.MapEntries.{some_value}
use Rattle.hd_model.specs.{declared.data.Slot.Slot, declared.limits.TheConstants.ROWS}
use Rattle.hd_model.specs.State.{Numbers, State, handle_at, handle_register_of}
use Rattle.hd_slots.specs.Tied.{IsTied}
use Rattle.hd_pool.specs.Pool.{FreeSlots}
use Rattle.hd_store.specs.{Offers.HasLimits, Store.Machine}
use Rattle.hd_host.specs.declared.change.Change.{Change}
use Rattle.hd_host.specs.{Inside.IsHost, Steps.pointed, View.HostView}
use Rattle.hd_host.proofs.CallHost.{view_of}
use Rattle.hd_model.proofs.ReadAfterWrite.{cell_here}

-- the numbers are within the limits, no handle register has a slot but one that was put there, each live slot
-- is one of the table's, and each slot has a stamp
pub record IsWhole (v : HostView) : Type 0 where
  pub limits : HasLimits v.machine.numbers
  pub empty : (context h : ℕ) → handle_register_of v.machine.state context h ≡ None
  pub named :
      (context : ℕ) (slot : Slot) → context < v.machine.numbers.callers
      → handle_register_of (pointed v.machine context (Some slot)).state context 0 ≡ Some slot
  pub live : (slot : Slot) → IsSome (handle_at v.machine.state slot) → slot.0 / ROWS ≤ v.machine.numbers.blocks
  pub stamps : length v.stamps ≡ ROWS * (v.machine.numbers.blocks + 1)

-- a live slot is one of the table's
pub live_low : {n : Numbers} {s : State} {p : FreeSlots} → IsTied n s p → (slot : Slot) → IsSome (handle_at s slot)
    → slot.0 / ROWS ≤ n.blocks
live_low {s = s} tied slot live =
    let held = some_value (handle_at s slot) live in
    (tied.well_formed.handles.blocks (slot.0 / ROWS) (ap is_some (tied.well_formed.handles.kinds slot.0 held.0 held.1))).1

pub whole : {m : Machine} {p : FreeSlots} {stamps : List ℕ} {last : Change} {v : HostView} → IsHost m p stamps
    → view_of m stamps last ≡ v → IsWhole v
whole {m = m} {stamps = stamps} host view = subst IsWhole view (record {
  limits = host.limits;
  empty = host.empty;
  named = λ context slot known. cell_here m.state.handle_registers context 0 (Some slot) None
      (omega (arith, known, host.tied.well_formed.shape.handle_registers))
      (omega (arith, host.tied.well_formed.shape.each_handle_registers context known));
  live = live_low host.tied;
  stamps = length-map stamps (λ entry. entry / 2 ^ 24) ∙ host.stamps;
})
