-- Which slots are live, by the entries of a host.
use Rattle.std.proofs.Common.{List, None, Option, Some, [], ap, arith, get_or, is_some, length, refl, replicate, suc, sym, zero, ⊎_elim, ℕ, ◌%◌, ◌/◌, ◌<◌, ◌^◌, ◌∙◌, ◌∷◌, ◌≡◌}
use Rattle.std.proofs.lemmas.List.{get_or-set_other, get_or-set_same}
use Rattle.std.proofs.lemmas.Option.{none-some}
use Rattle.std.proofs.lemmas.Bool.{cases_eq}
use Rattle.std.specs.Option.{option_map_or}
use Rattle.std.specs.Prelude.{slice_index, slice_set}
use Rattle.hd_model.proofs.ReadAfterWrite.{get_removed}
use Rattle.hd_model.proofs.StepWrites.{HandleChange, handle_stays, is_made, target_is_set, extra_is_set, is_freed, is_collected, same_slot}
use Rattle.hd_model.specs.{declared.command.Cmd.Cmd, declared.data.Entry.Entry, declared.data.Id.Id, declared.data.Slot.Slot, Touched.touched_by}
use Rattle.hd_model.specs.Command.{free_handle, free_handle_of, refuses}
use Rattle.hd_model.specs.declared.command.Cmd.TheVariants as cmd
use Rattle.hd_model.specs.declared.data.Refusal.TheVariants as refusal
use Rattle.hd_model.specs.State.{Handle as Held, State, handle_at, handle_register_of}
use Rattle.hd_host.specs.declared.stamps.TheConstants.{FREE}
use Rattle.hd_host.specs.{Handles.stamps_in, Inside.ShowsLive, Inside.low_bits}

module _ {s : State} {e : Entry} {at : Slot} where
  -- whether a handle is live after a command that writes no handle register
  pub live_stays : {c : Cmd} {o : Option (Held Id)} → HandleChange s e at c o
      → (touched_by c).handle_register ≡ None → is_some o ≡ is_some (handle_at s at)
  live_stays handle_stays none = refl
  live_stays (is_made {d = d} given reply free) none = absurd (none-some d (sym none))
  live_stays (target_is_set handle found reply) none = sym (ap is_some found.live)
  live_stays (extra_is_set handle found fits sets) none = sym (ap is_some found.live)
  live_stays (is_freed {h = h} handle found reply) none = absurd (none-some h (sym none))
  live_stays (is_collected reach kept handle is) none = sym (ap is_some is)

  -- and after one that makes or frees the handle in another slot
  pub other_stays : {c : Cmd} {o : Option (Held Id)} → HandleChange s e at c o → (e.slot ≡ Some at → ⊥)
      → ((h : ℕ) → c ≡ cmd.HFree h → handle_register_of s e.caller h ≡ Some at → ⊥)
      → is_some o ≡ is_some (handle_at s at)
  other_stays handle_stays made freed = refl
  other_stays (is_made given reply free) made freed = absurd (made given)
  other_stays (target_is_set handle found reply) made freed = sym (ap is_some found.live)
  other_stays (extra_is_set handle found fits sets) made freed = sym (ap is_some found.live)
  other_stays (is_freed {h = h} handle found reply) made freed = absurd (freed h refl found.names)
  other_stays (is_collected reach kept handle is) made freed = sym (ap is_some is)

-- the handle that the first register has is gone where it was freed
pub gone_after : (s t : State) (caller : ℕ) (slot : Slot) (held : Held Id) → handle_register_of s caller 0 ≡ Some slot
    → handle_at s slot ≡ Some held → t ≡ (free_handle s caller 0).after → handle_at t slot ≡ None
gone_after s t caller slot held names live after =
    ap (λ (x : State). handle_at x slot) after
    ∙ ap (λ r. handle_at (option_map_or (λ y. option_map_or (free_handle_of s caller 0 y) (handle_at s y)
    (refuses refusal.NotLive s)) r (refuses refusal.EmptyRegister s)).after slot) names
    ∙ ap (λ o. handle_at (option_map_or (free_handle_of s caller 0 slot) o (refuses refusal.NotLive s)).after slot)
    live
    ∙ get_removed s.handles slot.0

-- ---- stamps by entries

pub stamp_in : (entries : List ℕ) (i : ℕ) → get_or (stamps_in entries) i 0 ≡ get_or entries i 0 / 2 ^ 24
stamp_in [] i = refl
stamp_in (entry ∷ entries) zero = refl
stamp_in (entry ∷ entries) (suc i) = stamp_in entries i

pub none_stamped : (count : ℕ) → stamps_in (replicate count FREE) ≡ replicate count 0
none_stamped zero = refl
none_stamped (suc count) = ap (λ xs. 0 ∷ xs) (none_stamped count)

pub none_live : (count i : ℕ) → i < count → get_or (replicate count FREE) i 0 ≡ FREE
none_live zero i low = absurd (omega (arith, low))
none_live (suc count) zero low = refl
none_live (suc count) (suc i) low = none_live count i (omega (arith, low))

-- one entry is written
module _ (s t : State) (entries : List ℕ) (shows : ShowsLive s entries) (slot : Slot) (entry : ℕ)
    (here : entry % 2 ^ 24 ≡ low_bits (is_some (handle_at t slot)) slot)
    (others : (at : Slot) → (at.0 ≡ slot.0 → ⊥) → is_some (handle_at t at) ≡ is_some (handle_at s at)) where
  pub shows_written : (at : Slot) → at.0 < length entries
      → slice_index (slice_set entries slot.0 entry) at.0 % 2 ^ 24 ≡ low_bits (is_some (handle_at t at)) at
  shows_written at low = ⊎_elim
      (λ same. ap (λ x. x % 2 ^ 24) (ap (λ j. slice_index (slice_set entries slot.0 entry) j) same
      ∙ get_or-set_same entries slot.0 entry 0 (omega (arith, low, same)))
      ∙ here
      ∙ ap (λ (x : Slot). low_bits (is_some (handle_at t x)) x) (sym (same_slot at slot same)))
      (λ apart. ap (λ x. x % 2 ^ 24) (get_or-set_other entries slot.0 at.0 entry 0 apart) ∙ shows at low
      ∙ ap (λ b. low_bits b at) (sym (others at apart))) (cases_eq at.0 slot.0)
