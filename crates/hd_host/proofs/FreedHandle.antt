-- A handle that is freed: the stamp of its slot is below its end, and rises.
use Rattle.std.proofs.Common.{List, None, Option, Some, ap, arith, is_some, length, refl, subst, sym, ℕ, ◌%◌, ◌*◌, ◌+◌, ◌/◌, ◌<◌, ◌^◌, ◌∙◌, ◌≡◌}
use Rattle.std.proofs.lemmas.List.{length-map, length-set, map-set}
use Rattle.std.proofs.lemmas.Option.{same_Some}
use Rattle.std.specs.Prelude.{IsSome, slice_index, slice_set}
use Rattle.std.specs.FinMap.{empty}
use Rattle.hd_model.proofs.{AgedRuns.nothing_at, MapEntries.some_value}
use Rattle.hd_model.specs.{declared.data.Id.Id, PinnedAddresses.with_pinned}
use Rattle.hd_model.specs.State.{Handle as Held, handle_at, handle_register_of}
use Rattle.hd_model.specs.{declared.data.Entry.Entry, declared.data.Slot.Slot}
use Rattle.hd_model.specs.declared.command.Cmd.TheVariants as cmd
use Rattle.hd_model.specs.declared.data.Grown.TheVariants.{Zero}
use Rattle.hd_model.specs.declared.data.Reply.TheVariants as reply
use Rattle.hd_pool.specs.Pool.{FreeSlots}
use Rattle.hd_slots.specs.Change.{MayNote, noted}
use Rattle.hd_slots.specs.declared.change.Change.TheVariants.{Frees}
use Rattle.hd_store.specs.{Calls.HasCalled, Calls.KeepsFirst, Store.Machine}
use Rattle.hd_host.specs.declared.change.Change.{Change}
use Rattle.hd_host.specs.declared.handle.Handle.{Handle}
use Rattle.hd_host.specs.declared.stamps.TheConstants.{FREE}
use Rattle.hd_host.specs.{Calls.FreesHandle, Changes.change_by, Handles.IsOf, Handles.stamp_of, Steps.pointed, View.HostView, Inside.HasMoved, Inside.IsHost, Inside.low_bits, Handles.stamps_in}
use Rattle.hd_host.proofs.CallHost.{changes, host_with, known_in, may_note_by, stepped_by, view_of}
use Rattle.hd_host.proofs.LiveEntries.{gone_after, other_stays, shows_written, stamp_in}
use Rattle.hd_host.proofs.{Registers.pointed-again, SlotOfHandle.live_within, WholeHost.whole}

register_is : {h : ℕ} → cmd.HFree 0 ≡ cmd.HFree h → 0 ≡ h
register_is {h = h} same = let is = same in cc

abbrev pub freed_entry : Slot → Entry
freed_entry slot =
    record { caller = 0; cmd = cmd.HFree 0; slot = Some slot; grown = Zero; reply = reply.Done }

module _ {m : Machine} {p : FreeSlots} {stamps : List ℕ} {last : Change} {v : HostView} (host : IsHost m p stamps)
    (view : view_of m stamps last ≡ v) {handle : Handle} {slot : Slot} (of : IsOf v handle slot) (k : Machine)
    (called : HasCalled (pointed m 0 (Some slot)) 0 (cmd.HFree 0) None (pointed k 0 None) (freed_entry slot)
    × KeepsFirst m 0 k) where
  known : 0 < v.machine.numbers.callers
  known = omega (arith, (whole host view).limits.callers.0)

  did : HasMoved m 0 (Some slot) (cmd.HFree 0) None k (freed_entry slot)
  did = record {
    after = pointed k 0 None;
    called = called.0;
    new_is = sym (pointed-again k 0 None (called.1 ∙ host.empty 0 0));
  }

  pub may_note : MayNote p Frees (Some slot) Zero
  may_note = may_note_by host view known did p (refl, refl)

  -- the entry of the slot is its handle
  pub within : slot.0 < length stamps
  within = omega (
    arith,
    live_within (whole host view) slot of.live,
    ap (λ (x : HostView). length x.stamps) view,
    length-map stamps (λ entry. entry / 2 ^ 24),
  )

  held : (h : Held Id) × (handle_at m.state slot ≡ Some h)
  held = some_value (handle_at m.state slot)
      (subst (λ (x : HostView). IsSome (handle_at x.machine.state slot)) (sym view) of.live)

  pub low : slice_index stamps slot.0 % 2 ^ 24 ≡ slot.0
  low = host.live slot within ∙ ap (λ (o : Option (Held Id)). low_bits (is_some o) slot) held.1

  pub stamp_same : slice_index stamps slot.0 / 2 ^ 24 ≡ stamp_of v slot
  stamp_same = sym (stamp_in stamps slot.0) ∙ ap (λ (x : HostView). stamp_of x slot) view

  names : handle_register_of (pointed m 0 (Some slot)).state 0 0 ≡ Some slot
  names = (whole {v = view_of m stamps last} host refl).named 0 slot (known_in view known)

  gone : handle_at k.state slot ≡ None
  gone =
      let asked = with_pinned (pointed m 0 (Some slot)).state empty in
      let goes = called.0.effect empty (λ x at found. absurd (nothing_at x at found)) in
      gone_after asked (with_pinned (pointed k 0 None).state goes.pinned) 0 slot held.0 names held.1 goes.step.does.after

  others_stay : (at : Slot) → (at.0 ≡ slot.0 → ⊥) → is_some (handle_at k.state at) ≡ is_some (handle_at m.state at)
  others_stay at apart = other_stays (changes host view known did p (refl, refl) at)
      (λ given. apart (ap (λ (x : Slot). x.0) (sym (same_Some slot at given))))
      (λ h same there. apart (ap (λ (x : Slot). x.0) (sym (same_Some slot at (sym names
      ∙ ap (λ i. handle_register_of (pointed m 0 (Some slot)).state 0 i) (register_is same) ∙ there)))))

  abbrev next : ℕ
  next = (slice_index stamps slot.0 / 2 ^ 24 + 1) * 2 ^ 24 + FREE

  module _ {r : FreeSlots} (noted_is : r ≡ noted p Frees (Some slot) Zero) {others : List ℕ}
      (raised : others ≡ slice_set stamps slot.0 next) where
    long : length others ≡ length stamps
    long = ap length raised ∙ length-set stamps slot.0 next

    pub host_freed : IsHost k r others
    host_freed = host_with host view known did p (refl, refl) r noted_is refl others long
        (λ at near. ap (λ (xs : List ℕ). slice_index xs at.0 % 2 ^ 24) raised
        ∙ shows_written m.state k.state stamps host.live slot next
        (omega arith ∙ ap (λ (o : Option (Held Id)). low_bits (is_some o) slot) (sym gone)) others_stay at
        (omega (arith, near, long)))

    pub freed : {after : Change} → after ≡ change_by (Some slot) Zero → stamp_of v slot + 1 < 2 ^ 40
        → FreesHandle v handle (view_of k others after)
    freed after_is below = record {
      slot = slot;
      handle_is = of;
      below_end = below;
      entry = freed_entry slot;
      stepped = stepped_by host view known did p (refl, refl);
      reply = refl;
      stamps = ap stamps_in raised ∙ map-set (λ entry. entry / 2 ^ 24) stamps slot.0 next
          ∙ ap (slice_set (stamps_in stamps) slot.0) (omega (arith, stamp_same))
          ∙ ap (λ (xs : List ℕ). slice_set xs slot.0 (stamp_of v slot + 1)) (ap (λ (x : HostView). x.stamps) view);
      last = after_is;
    }
