-- The slot and the stamp in a handle: which handles are stale, and that a handle is that of one slot.
use Rattle.std.proofs.Common.{Bool, List, None, Some, ap, arith, false, get_or, inl, inr, is_some, length, refl, slice_get, subst, sym, true, ℕ, ◌%◌, ◌*◌, ◌+◌, ◌/◌, ◌<◌, ◌^◌, ◌∙◌, ◌≡◌, ◌≢◌, ◌≤◌, ◌⊎◌}
use Rattle.std.proofs.lemmas.List.{length-map}
use Rattle.std.proofs.lemmas.Option.{slice_get_cases, get_or_from_slice_get, none-some}
use Rattle.std.specs.Prelude.{IfSome, IsSome, slice_index}
use Rattle.hd_model.specs.{declared.data.Slot.Slot, State.handle_at}
use Rattle.hd_pool.specs.Pool.{FreeSlots}
use Rattle.hd_store.specs.Store.{Machine}
use Rattle.hd_host.specs.declared.change.Change.{Change}
use Rattle.hd_host.specs.declared.handle.Handle.{Handle}
use Rattle.hd_host.specs.{Handles.IsOf, Handles.IsStale, Handles.stamp_of, Inside.IsHost, Inside.low_bits, View.HostView}
use Rattle.hd_host.proofs.{CallHost.view_of, LiveEntries.stamp_in, WholeHost.IsWhole, WholeHost.whole}

module _ {v : HostView} (whole : IsWhole v) where
  pub live_within : (slot : Slot) → IsSome (handle_at v.machine.state slot) → slot.0 < length v.stamps
  live_within slot live = omega (arith, whole.live slot live, whole.stamps)

  pub live_small : (slot : Slot) → IsSome (handle_at v.machine.state slot) → slot.0 < 2 ^ 24
  live_small slot live = omega (arith, whole.live slot live, whole.limits.blocks)

  module _ {handle : Handle} where
    -- the slot and the stamp of the number are those of the live slot
    pub slot_is : {slot : Slot} → IsOf v handle slot → handle.0 % 2 ^ 24 ≡ slot.0
    slot_is {slot = slot} of =
        omega (arith, live_small slot of.live, ap (λ (h : Handle). h.0) of.is)

    pub stamp_is : {slot : Slot} → IsOf v handle slot → handle.0 / 2 ^ 24 ≡ stamp_of v slot
    stamp_is {slot = slot} of =
        omega (arith, live_small slot of.live, ap (λ (h : Handle). h.0) of.is)

    pub same_slot : {slot other : Slot} → IsOf v handle slot → IsOf v handle other → slot ≡ other
    same_slot {slot = slot} {other = other} of also = λ i. record { 0 = same i }
      where
        same : slot.0 ≡ other.0
        same = sym (slot_is of) ∙ slot_is also

module _ {m : Machine} {p : FreeSlots} {entries : List ℕ} {last : Change} {v : HostView} (host : IsHost m p entries)
    (view : view_of m entries last ≡ v) where
  all : IsWhole v
  all = whole host view

  live_in : (slot : Slot) → is_some (handle_at m.state slot) ≡ is_some (handle_at v.machine.state slot)
  live_in slot = ap (λ (x : HostView). is_some (handle_at x.machine.state slot)) view

  stamp_same : (slot : Slot) → slice_index entries slot.0 / 2 ^ 24 ≡ stamp_of v slot
  stamp_same slot = sym (stamp_in entries slot.0) ∙ ap (λ (x : HostView). stamp_of x slot) view

  pub within : (slot : Slot) → IsSome (handle_at v.machine.state slot) → slot.0 < length entries
  within slot live = omega (
    arith,
    live_within all slot live,
    ap (λ (x : HostView). length x.stamps) view,
    length-map entries (λ entry. entry / 2 ^ 24),
  )

  -- the entry of a live slot is its handle
  pub entry_is : (slot : Slot) → IsSome (handle_at v.machine.state slot)
      → slice_index entries slot.0 ≡ stamp_of v slot * 2 ^ 24 + slot.0
  entry_is slot live = omega (
    arith,
    stamp_same slot,
    host.live slot (within slot live) ∙ ap (λ b. low_bits b slot) (live_in slot ∙ live),
  )

  -- so a number that is the entry of its slot is the handle of a live one
  module _ (handle : Handle) {at : Slot} (at_is : at ≡ record { 0 = handle.0 % 2 ^ 24 }) where
    at_low : at.0 ≡ handle.0 % 2 ^ 24
    at_low = ap (λ (s : Slot). s.0) at_is

    pub live_by : slice_get entries (handle.0 % 2 ^ 24) ≡ Some handle.0 → IsOf v handle at
    live_by found = by (slice_get_cases entries (handle.0 % 2 ^ 24)).1
      where
        entry : slice_index entries at.0 ≡ handle.0
        entry = ap (slice_index entries) at_low
            ∙ get_or_from_slice_get entries (handle.0 % 2 ^ 24) handle.0 0 found

        is : is_some (handle_at m.state at) ≡ true → IsOf v handle at
        is live = record {
          live = sym (live_in at) ∙ live;
          is = λ i. record { 0 = same i };
        }
          where
            same : handle.0 ≡ stamp_of v at * 2 ^ 24 + at.0
            same = sym entry ∙ entry_is at (sym (live_in at) ∙ live)

        lives : at.0 < length entries → (b : Bool) → is_some (handle_at m.state at) ≡ b
            → is_some (handle_at m.state at) ≡ true
        lives low true live = live
        lives low false gone = absurd (omega (
          arith,
          low,
          at_low,
          entry,
          host.live at low ∙ ap (λ b. low_bits b at) gone,
          host.stamps,
          host.limits.blocks,
        ))

        by : ((x : ℕ) × (handle.0 % 2 ^ 24 < length entries) × (slice_get entries (handle.0 % 2 ^ 24) ≡ Some x)
            × (get_or entries (handle.0 % 2 ^ 24) x ≡ x))
            ⊎ ((length entries ≤ handle.0 % 2 ^ 24) × (slice_get entries (handle.0 % 2 ^ 24) ≡ None))
            → IsOf v handle at
        by (inl low) = is (lives (omega (arith, low.1, at_low)) (is_some (handle_at m.state at)) refl)
        by (inr past) = absurd (none-some handle.0 (sym past.1 ∙ found))

  -- and any other is stale
  pub stale_by : {handle : Handle} → IfSome (slice_get entries (handle.0 % 2 ^ 24)) (λ entry. entry ≢ handle.0)
      → IsStale v handle
  stale_by {handle = handle} other slot of =
      let here : handle.0 % 2 ^ 24 ≡ slot.0 = slot_is all of in
      by (slice_get_cases entries slot.0).1 (subst (λ i. IfSome (slice_get entries i) (λ entry. entry ≢ handle.0)) here
      other)
    where
      by : ((x : ℕ) × (slot.0 < length entries) × (slice_get entries slot.0 ≡ Some x) × (get_or entries slot.0 x ≡ x))
          ⊎ ((length entries ≤ slot.0) × (slice_get entries slot.0 ≡ None))
          → IfSome (slice_get entries slot.0) (λ entry. entry ≢ handle.0) → ⊥
      by (inl low) apart = subst (λ o. IfSome o (λ entry. entry ≢ handle.0)) low.2 apart
          (sym (get_or_from_slice_get entries slot.0 low.0 0 low.2) ∙ entry_is slot of.live
          ∙ sym (ap (λ (h : Handle). h.0) of.is))
      by (inr past) apart = absurd (omega (arith, past.0, within slot of.live))
