-- The slot and the stamp in a handle.
use Rattle.std.proofs.Common.{Some, ap, arith, is_some, length, sym, ℕ, ◌%◌, ◌*◌, ◌+◌, ◌/◌, ◌<◌, ◌^◌, ◌∙◌, ◌≡◌, ◌≤◌}
use Rattle.std.specs.Prelude.{IsSome}
use Rattle.hd_model.proofs.MapEntries.{some_value}
use Rattle.hd_model.specs.{declared.data.Slot.Slot, declared.limits.TheConstants.ROWS, State.handle_at}
use Rattle.hd_host.specs.declared.handle.Handle.{Handle}
use Rattle.hd_host.specs.{Handles.IsOf, Handles.stamp_of, Turns.IsSoundHost, View.HostView}

module _ {v : HostView} (sound : IsSoundHost v) where
  -- a live slot is one of the table's, and has a stamp
  live_low : (slot : Slot) → IsSome (handle_at v.machine.state slot)
      → slot.0 / ROWS ≤ v.machine.numbers.blocks
  live_low slot live =
      let held = some_value (handle_at v.machine.state slot) live in
      let handles = sound.machine.well_formed.handles in
      (handles.blocks (slot.0 / ROWS) (ap is_some (handles.kinds slot.0 held.0 held.1))).1

  pub live_within : (slot : Slot) → IsSome (handle_at v.machine.state slot) → slot.0 < length v.stamps
  live_within slot live = omega (arith, live_low slot live, sound.stamps)

  live_small : (slot : Slot) → IsSome (handle_at v.machine.state slot) → slot.0 < 2 ^ 24
  live_small slot live = omega (arith, live_low slot live, sound.machine.limits.blocks)

  pub slot_is : (handle : Handle) (slot : Slot) → IsOf v handle slot → slot.0 ≡ handle.0 % 2 ^ 24
  slot_is handle slot of = omega (arith, live_small slot of.live, ap (λ (h : Handle). h.0) of.is)

  pub stamp_is : (handle : Handle) (slot : Slot) → IsOf v handle slot → stamp_of v slot ≡ handle.0 / 2 ^ 24
  stamp_is handle slot of = omega (arith, live_small slot of.live, ap (λ (h : Handle). h.0) of.is)

-- a handle has one slot and one stamp in all hosts
module _ {v w : HostView} (in_v : IsSoundHost v) (in_w : IsSoundHost w) {handle : Handle} {slot other : Slot}
    (of : IsOf v handle slot) (also : IsOf w handle other) where
  pub one_slot : slot ≡ other
  one_slot = λ i. record { 0 = same i }
    where
      same : slot.0 ≡ other.0
      same = slot_is in_v handle slot of ∙ sym (slot_is in_w handle other also)

  pub one_stamp : stamp_of v slot ≡ stamp_of w other
  one_stamp = stamp_is in_v handle slot of ∙ sym (stamp_is in_w handle other also)
