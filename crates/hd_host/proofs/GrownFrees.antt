-- A handle that is freed, and a block that `trim` gives back, in a host that has some of its blocks so far.
use Rattle.std.proofs.Common.{List, None, Option, Some, ap, arith, length, refl, subst, sym, ℕ, ◌%◌, ◌*◌, ◌+◌, ◌/◌, ◌<◌, ◌^◌, ◌∙◌, ◌≡◌, ◌≤◌}
use Rattle.std.proofs.lemmas.List.{length-set}
use Rattle.std.specs.Prelude.{IsSome, slice_index, slice_set}
use Rattle.hd_commands.specs.Done.{entry_by}
use Rattle.hd_model.specs.{declared.data.Grown.Grown, declared.data.Kind.Kind, declared.data.Slot.Slot, State.handle_at}
use Rattle.hd_model.specs.declared.command.Cmd.TheVariants as cmd
use Rattle.hd_model.specs.declared.data.Grown.TheVariants.{Zero}
use Rattle.hd_pool.specs.Pool.{FreeSlots}
use Rattle.hd_slots.specs.Change.{MayNote, Offers, noted}
use Rattle.hd_slots.specs.declared.change.Change.TheVariants.{Frees, GivesBack}
use Rattle.hd_store.proofs.SoundCalls.{sound-pointed}
use Rattle.hd_store.specs.{Calls.HasCalled, Calls.KeepsFirst, Calls.pointed, Growth.with_blocks, Offers.IsOffer, Replies.done_trimming, Replies.given_back, Store.Machine}
use Rattle.hd_host.specs.declared.stamps.TheConstants.{FREE}
use Rattle.hd_host.specs.{declared.change.Change.Change, declared.handle.Handle.Handle, Calls.FreesHandle, Calls.Trims, Changes.change_by, Handles.IsOf, Handles.padded, Handles.stamp_of, Inside.IsGrown, Inside.with_room, View.HostView}
use Rattle.hd_host.proofs.CallHost.{known_in}
use Rattle.hd_host.proofs.FreedHandle.{freed_entry}
use Rattle.hd_host.proofs.FreedHandle as whole
use Rattle.hd_host.proofs.GrownCalls.{shown, some_context}
use Rattle.hd_host.proofs.GrownParts.{noted_of, noted_on, sized_with, slot_within}
use Rattle.hd_host.proofs.PaddedEntries.{index_padded, written_padded}
use Rattle.hd_host.proofs.RoomOfPools.{noted_blocks, noted_room, offers_blocks, offers_room}
use Rattle.hd_host.proofs.Trimmed as trimmed
use Rattle.hd_host.proofs.WiderCall.{sized_called, sized_of, wide_called}

-- ---- a handle that is freed

module _ {limit : ℕ} {m : Machine} {p : FreeSlots} {entries : List ℕ} {last : Change} {v : HostView}
    (grown : IsGrown limit m p entries) (view : shown limit m entries last ≡ v) {handle : Handle} {slot : Slot}
    (of : IsOf v handle slot) (k : Machine)
    (called : HasCalled (pointed m 0 (Some slot)) 0 (cmd.HFree 0) None (pointed k 0 None) (freed_entry slot)
    × KeepsFirst m 0 k) where
  here : 0 < m.numbers.callers
  here = known_in view (some_context grown view)

  wide : HasCalled (pointed (with_blocks limit m) 0 (Some slot)) 0 (cmd.HFree 0) None
      (pointed (with_blocks limit k) 0 None) (freed_entry slot) × KeepsFirst (with_blocks limit m) 0 (with_blocks limit k)
  wide = (
    wide_called (sound-pointed m 0 0 (Some slot) grown.sized.sound here) grown.sized.ages grown.sized.few called.0 tt,
    called.1,
  )

  pub may_note : MayNote p Frees (Some slot) Zero
  may_note = noted_of limit p p grown.host grown.sized.sound grown.sized.pool here (refl, refl) (Some slot) (pointed k 0 None)
      (freed_entry slot) called.0

  pub within : slot.0 < length entries
  within = slot_within grown.sized slot
      (subst (λ (x : HostView). IsSome (handle_at x.machine.state slot)) (sym view) of.live)

  -- the entry of the slot is its handle
  pub low : slice_index entries slot.0 % 2 ^ 24 ≡ slot.0
  low = ap (λ x. x % 2 ^ 24) (sym (index_padded limit entries slot.0 within))
      ∙ whole.low grown.host view of (with_blocks limit k) wide

  pub stamp_same : slice_index entries slot.0 / 2 ^ 24 ≡ stamp_of v slot
  stamp_same = ap (λ x. x / 2 ^ 24) (sym (index_padded limit entries slot.0 within))
      ∙ whole.stamp_same grown.host view of (with_blocks limit k) wide

  abbrev next : ℕ → ℕ
  next x = (x / 2 ^ 24 + 1) * 2 ^ 24 + FREE

  module _ {r : FreeSlots} (noted_is : r ≡ noted p Frees (Some slot) Zero) {others : List ℕ}
      (raised : others ≡ slice_set entries slot.0 (next (slice_index entries slot.0))) where
    raised_wide : padded limit others
        ≡ slice_set (padded limit entries) slot.0 (next (slice_index (padded limit entries) slot.0))
    raised_wide = written_padded limit entries next slot.0 within raised

    pub host_freed : IsGrown limit k r others
    host_freed = record {
      host = whole.host_freed grown.host view of (with_blocks limit k) wide
          (noted_room limit p Frees (Some slot) Zero noted_is) raised_wide;
      sized = sized_with (sized_of grown.sized here (Some slot) None called.0 (called.1 ∙ grown.host.empty 0 0))
          (noted_blocks p Frees (Some slot) Zero noted_is)
          (ap length raised ∙ length-set entries slot.0 (next (slice_index entries slot.0)));
    }

    pub freed : {after : Change} → after ≡ change_by (Some slot) Zero → stamp_of v slot + 1 < 2 ^ 40
        → FreesHandle v handle (shown limit k others after)
    freed after_is below = whole.freed grown.host view of (with_blocks limit k) wide
        (noted_room limit p Frees (Some slot) Zero noted_is) raised_wide after_is below

-- ---- `trim`

module _ {limit : ℕ} {m : Machine} {p : FreeSlots} {entries : List ℕ} {last : Change} {v : HostView}
    (grown : IsGrown limit m p entries) (view : shown limit m entries last ≡ v) (kind : Kind) (q : FreeSlots)
    (o : Option Slot) (offers : Offers p q (GivesBack kind) o) where
  wide_offers : Offers (with_room limit p) (with_room limit q) (GivesBack kind) o
  wide_offers = offers_room limit p q (GivesBack kind) o offers

  more : m.numbers.blocks ≤ q.blocks
  more = omega (arith, grown.sized.pool, offers_blocks p q (GivesBack kind) o offers)

  pub may_offer : IsOffer m.state 0 (cmd.Trim kind) o
  may_offer = trimmed.may_offer grown.host view kind (with_room limit q) o wide_offers

  module _ {k : Machine} {by : Grown}
      (called : HasCalled m 0 (cmd.Trim kind) o k (entry_by 0 (cmd.Trim kind) (done_trimming by))) where
    wide_trim : HasCalled (with_blocks limit m) 0 (cmd.Trim kind) o (with_blocks limit k)
        (entry_by 0 (cmd.Trim kind) (done_trimming by))
    wide_trim = wide_called grown.sized.sound grown.sized.ages grown.sized.few called tt

    pub may_note_trim : MayNote q (GivesBack kind) None by
    may_note_trim = noted_on limit p q grown.host grown.sized.sound more (known_in view (some_context grown view)) wide_offers k
        (entry_by 0 (cmd.Trim kind) (done_trimming by)) called

    pub host_trimmed : (r : FreeSlots) → r ≡ noted q (GivesBack kind) None by → IsGrown limit k r entries
    host_trimmed r is = record {
      host = trimmed.host_trimmed grown.host view kind (with_room limit q) o wide_offers wide_trim (with_room limit r)
          (noted_room limit q (GivesBack kind) None by is);
      sized = sized_with (sized_called grown.sized called)
          (noted_blocks q (GivesBack kind) None by is ∙ offers_blocks p q (GivesBack kind) o offers) refl;
    }

    pub trims : {given : ℕ} {after : Change} → after ≡ change_by None by → given ≡ given_back by
        → Trims v kind given (shown limit k entries after)
    trims after_is given_is =
        trimmed.trims grown.host view kind (with_room limit q) o wide_offers wide_trim after_is given_is
