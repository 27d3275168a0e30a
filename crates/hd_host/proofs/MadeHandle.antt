-- The slot of a handle that was made is live.
use Rattle.std.proofs.Common.{List, None, Option, Some, ap, arith, false, inl, inr, is_some, length, refl, subst, sym, ℕ, ◌%◌, ◌*◌, ◌+◌, ◌/◌, ◌<◌, ◌^◌, ◌∙◌, ◌≡◌, ◌≤◌}
use Rattle.std.proofs.lemmas.{Bool.true≢false, List.length-set, Option.none-some, Option.same_Some}
use Rattle.std.proofs.Math.Seq.{map-set_same}
use Rattle.std.specs.Prelude.{IfSome, IsSome, slice_index, slice_set}
use Rattle.std.specs.FinMap.{empty}
use Rattle.hd_model.proofs.{AgedRuns.nothing_at, ReadAfterWrite.get_inserted}
use Rattle.hd_model.specs.{declared.command.Cmd.Cmd, declared.data.Entry.Entry, declared.data.Grown.Grown, declared.data.Kind.Kind, declared.data.Id.Id, declared.data.Make.Make, declared.data.Refusal.Refusal, declared.data.Slot.Slot, Aging.is_refused, Kinds.kind_of, PinnedAddresses.with_pinned, Step.StepOf, Step.with_growth, Command.made_handle, WellFormed.IsWellFormed, declared.limits.TheConstants.ROWS}
use Rattle.hd_model.proofs.WellFormedSteps.{given_vacant}
use Rattle.hd_host.specs.declared.stamps.TheConstants.{FREE}
use Rattle.hd_model.specs.declared.command.Cmd.TheVariants as cmd
use Rattle.hd_model.specs.State.{Handle as Held, IsFree, Numbers, State, handle_at}
use Rattle.hd_model.specs.declared.data.Grown.TheVariants.{Zero}
use Rattle.hd_model.specs.declared.data.Reply.TheVariants as reply
use Rattle.hd_pool.specs.Pool.{FreeSlots}
use Rattle.hd_slots.specs.Change.{MayNote, Offers, noted}
use Rattle.hd_slots.specs.declared.change.Change.TheVariants.{Takes}
use Rattle.hd_store.specs.{Calls.HasCalled, Calls.KeepsFirst, Offers.IsOffer, Store.Machine}
use Rattle.hd_host.specs.{declared.change.Change.Change, declared.fault.Fault.Fault, declared.handle.Handle.Handle as Given, Calls.FailsBy, Calls.HasDone, Calls.MakesHandle, Changes.change_by, Handles.handle_of, Steps.HasStepped, Steps.pointed, View.HostView, View.IsAsItWas, Inside.fault_of, Inside.HasMoved, Inside.IsHost, Inside.low_bits, Handles.stamps_in}
use Rattle.hd_host.proofs.CallPool.{may_be_offered, tied_on, tied_pointed}
use Rattle.hd_host.proofs.LiveEntries.{other_stays, shows_written}
use Rattle.hd_host.proofs.WholeHost.{live_low}
use Rattle.hd_host.proofs.CallHost.{changes, done_by, host_with, known_in, may_note_by, parts_of, refused_by, stepped_by, view_of}
use Rattle.hd_host.proofs.Registers.{called_numbers, not_pointed, pointed-again}

abbrev pub made_entry : ℕ → Make → ℕ → Slot → Grown → Entry
made_entry context make t slot grown =
    record { caller = context; cmd = cmd.HNew 0 make t; slot = Some slot; grown = grown; reply = reply.Done }

abbrev pub refused_entry : ℕ → Cmd → Refusal → Entry
refused_entry context c why =
    record { caller = context; cmd = c; slot = None; grown = Zero; reply = reply.Refused why }

pub record IsMade (s : State) (e : Entry) (t : State) : Type 0 where
  pub slot : Slot
  pub vacant : handle_at s slot ≡ None
  pub given : e.slot ≡ Some slot
  pub live : IsSome (handle_at t slot)

made : (n : Numbers) (s : State) (e : Entry) (t : State) (make : Make) (r : ℕ)
    → IsWellFormed n s → StepOf n s e t (cmd.HNew 0 make r) → is_refused e.reply ≡ false → IsMade s e t
made n s e t make r well (inl is) done = record {
  slot = is.slot;
  vacant = given_vacant n s well (kind_of make) e.grown is.slot is.may;
  given = is.given;
  live = ap (λ (x : State). is_some (handle_at x is.slot)) is.after
      ∙ ap is_some (get_inserted (with_growth s (kind_of make) e.grown).handles is.slot.0
      (made_handle s e.caller make r));
}
made n s e t make r well (inr full) done = absurd (true≢false (sym (ap is_refused full.refused.reply) ∙ done))

pub is_made : (m k : Machine) (context : ℕ) (make : Make) (r : ℕ) (e : Entry)
    → IsWellFormed m.numbers (with_pinned (pointed m context None).state empty)
    → HasStepped m context None (cmd.HNew 0 make r) k e → is_refused e.reply ≡ false → IsMade m.state e k.state
is_made m k context make r e well stepped done =
    let goes = stepped.effect empty (λ x at found. absurd (nothing_at x at found)) in
    let there = made m.numbers (with_pinned (pointed m context None).state empty) e
    (with_pinned stepped.after.state goes.pinned) make r well
    (subst (λ (x : Cmd). StepOf m.numbers (with_pinned (pointed m context None).state empty) e
    (with_pinned stepped.after.state goes.pinned) x) stepped.command_is.1 goes.step.does) done in record {
      slot = there.slot;
      vacant = there.vacant;
      given = there.given;
      live = ap (λ (x : Machine). is_some (handle_at x.state there.slot)) stepped.new_is ∙ there.live;
    }

-- ---- a call that takes what was offered and grows the table

module _ {m : Machine} {p : FreeSlots} {stamps : List ℕ} {last : Change} {v : HostView} (host : IsHost m p stamps)
    (view : view_of m stamps last ≡ v) {context : ℕ} (known : context < v.machine.numbers.callers) (make : Make)
    (t : ℕ) {of : Kind} (of_is : of ≡ kind_of make) (q : FreeSlots) (o : Option Slot)
    (given : Offers p q (Takes of) o) (k : Machine) where
  offers : Offers p q (Takes (kind_of make)) o
  offers = subst (λ x. Offers p q (Takes x) o) of_is given

  pub offered_free : IfSome o (IsFree m.state (kind_of make))
  offered_free = by o (may_be_offered m p q host.tied context (known_in view known) None (cmd.HNew 0 make t) o offers)
    where
      by : (x : Option Slot) → IsOffer m.state context (cmd.HNew 0 make t) x → IfSome x (IsFree m.state (kind_of make))
      by None is = tt
      by (Some slot) is = is

  -- it made a handle
  module _ {slot : Slot} {grown : Grown} (called : HasCalled m context (cmd.HNew 0 make t) o
      (pointed k context (Some slot)) (made_entry context make t slot grown) × KeepsFirst m context k) where
    did : HasMoved m context None (cmd.HNew 0 make t) o k (made_entry context make t slot grown)
    did = record {
      after = pointed k context (Some slot);
      called = subst (λ (x : Machine). HasCalled x context (cmd.HNew 0 make t) o (pointed k context (Some slot))
          (made_entry context make t slot grown)) (sym (not_pointed m context (host.empty context 0))) called.0;
      new_is = sym (pointed-again k context (Some slot) (called.1 ∙ host.empty context 0));
    }

    pub may_note : MayNote q (Takes of) (Some slot) grown
    may_note = subst (λ x. MayNote q (Takes x) (Some slot) grown) (sym of_is) (may_note_by host view known did q offers)

    made_it : IsMade m.state (made_entry context make t slot grown) k.state
    made_it = is_made m k context make t (made_entry context make t slot grown)
        (tied_pointed m p context None (known_in view known) host.tied).well_formed
        (stepped_by {v = view_of m stamps last} host refl (known_in view known) did q offers) refl

    same : made_it.slot ≡ slot
    same = same_Some made_it.slot slot (sym made_it.given)

    pub live_made : IsSome (handle_at k.state slot)
    live_made = subst (λ s. IsSome (handle_at k.state s)) same made_it.live

    -- the slot is one of the table's, and was not live
    low : slot.0 / ROWS ≤ m.numbers.blocks
    low = omega (
      arith,
      live_low (tied_on m p q host.tied context (known_in view known) None (cmd.HNew 0 make t) o offers
          did.after (made_entry context make t slot grown) did.called
          (noted q (Takes (kind_of make)) (Some slot) grown) refl) slot
          (subst (λ (x : Machine). IsSome (handle_at x.state slot)) did.new_is live_made),
      ap (λ (n : Numbers). n.blocks) (called_numbers did.called),
    )

    pub within : slot.0 < length stamps
    within = omega (arith, low, host.stamps)

    pub small : slot.0 < 2 ^ 24
    small = omega (arith, low, host.limits.blocks)

    pub free : slice_index stamps slot.0 % 2 ^ 24 ≡ FREE
    free = host.live slot within ∙ ap (λ (o : Option (Held Id)). low_bits (is_some o) slot)
        (ap (handle_at m.state) (sym same) ∙ made_it.vacant)

    abbrev next : ℕ
    next = slice_index stamps slot.0 / 2 ^ 24 * 2 ^ 24 + slot.0

    others_stay : (at : Slot) → (at.0 ≡ slot.0 → ⊥) → is_some (handle_at k.state at) ≡ is_some (handle_at m.state at)
    others_stay at apart = other_stays (changes host view known did q offers at)
        (λ given. apart (ap (λ (x : Slot). x.0) (sym (same_Some slot at given)))) (λ h same there. absurd (cc same))

    module _ {entries : List ℕ} (written : entries ≡ slice_set stamps slot.0 next) where
      long : length entries ≡ length stamps
      long = ap length written ∙ length-set stamps slot.0 next

      pub host_made : (r : FreeSlots) → r ≡ noted q (Takes of) (Some slot) grown → IsHost k r entries
      host_made r is = host_with host view known did q offers r
          (is ∙ ap (λ x. noted q (Takes x) (Some slot) grown) of_is) refl entries long
          (λ at near. ap (λ (xs : List ℕ). slice_index xs at.0 % 2 ^ 24) written
          ∙ shows_written m.state k.state stamps host.live slot next
          (omega (arith, small) ∙ ap (λ b. low_bits b slot) (sym live_made)) others_stay at (omega (arith, near, long)))

      -- the stamps are as they were
      same_stamps : stamps_in stamps ≡ stamps_in entries
      same_stamps = sym (ap stamps_in written
          ∙ map-set_same (λ entry. entry / 2 ^ 24) stamps slot.0 next 0 (omega (arith, small)))

      pub makes : {handle : Given} {after : Change} → after ≡ change_by (Some slot) grown
          → handle ≡ handle_of (view_of k entries after) slot
          → MakesHandle v context make t (view_of k entries after) handle
      makes {after = after} after_is is = record {
        entry = made_entry context make t slot grown;
        done = subst (λ (z : Change). HasDone v context None (cmd.HNew 0 make t)
            (made_entry context make t slot grown) (view_of k entries z)) (sym after_is)
            (subst (λ (xs : List ℕ). HasDone v context None (cmd.HNew 0 make t)
            (made_entry context make t slot grown) (parts_of k xs (change_by (Some slot) grown))) same_stamps
            (done_by host view known did q offers refl refl));
        slot = slot;
        slot_is = refl;
        handle_is = record { live = live_made; is = is };
      }

  -- the table was full
  module _ {why : Refusal} (called : HasCalled m context (cmd.HNew 0 make t) o k
      (refused_entry context (cmd.HNew 0 make t) why) × KeepsFirst m context k) where
    full : HasMoved m context None (cmd.HNew 0 make t) o k (refused_entry context (cmd.HNew 0 make t) why)
    full = record {
      after = k;
      called = subst (λ (x : Machine). HasCalled x context (cmd.HNew 0 make t) o k
          (refused_entry context (cmd.HNew 0 make t) why)) (sym (not_pointed m context (host.empty context 0)))
          called.0;
      new_is = sym (not_pointed k context (called.1 ∙ host.empty context 0));
    }

    pub host_unmade : IsHost k q stamps
    host_unmade = host_with host view known full q offers q refl refl stamps refl
        (λ at low. host.live at low ∙ ap (λ b. low_bits b at)
        (sym (other_stays (changes host view known full q offers at) (λ given. none-some at given)
        (λ h same there. absurd (cc same)))))

    pub makes_none : {fault : Fault} → fault ≡ fault_of why
        → FailsBy v context None (cmd.HNew 0 make t) fault × IsAsItWas v (view_of k stamps last)
    makes_none is = subst (λ f. FailsBy v context None (cmd.HNew 0 make t) f × IsAsItWas v (view_of k stamps last))
        (sym is) (refused_by host view known full q offers why refl)
