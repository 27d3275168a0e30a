-- What is always true of a host is so after a command, and what the command comes to.
use Rattle.std.proofs.Common.{List, None, Option, ap, false, length, refl, subst, sym, ℕ, ◌*◌, ◌+◌, ◌<◌, ◌∙◌, ◌≡◌}
use Rattle.std.specs.{FinMap.empty, Prelude.IfSome}
use Rattle.hd_model.specs.{declared.command.Cmd.Cmd, declared.data.Entry.Entry, declared.data.Refusal.Refusal, declared.data.Slot.Slot, Aging.is_refused, PinnedAddresses.with_pinned, State.Numbers, State.State, State.handle_at, State.handle_register_of, Touched.touched_by}
use Rattle.hd_model.proofs.{Effects.effect, StepWrites.HandleChange, StepWrites.handle_change}
use Rattle.hd_slots.specs.Tied.{IsTied}
use Rattle.hd_model.specs.declared.data.Reply.TheVariants as reply
use Rattle.hd_model.specs.declared.limits.TheConstants.{ROWS}
use Rattle.hd_pool.specs.Pool.{FreeSlots}
use Rattle.hd_slots.specs.Change.{MayNote, Offers, change_in, noted}
use Rattle.hd_store.specs.{Offers.HasLimits, Offers.RanOut, PinnedAddresses.Moves, Store.Machine}
use Rattle.hd_host.specs.{declared.change.Change.Change, Calls.FailsBy, Calls.HasDone, Changes.change_by, Replies.RepliesTo, Steps.HasStepped, Steps.pointed, View.HostView, View.IsAsItWas, View.state_in, Inside.fault_of, Inside.IsHost, Inside.HasMoved, Inside.ShowsLive, Inside.low_bits, Handles.stamps_in}
use Rattle.hd_host.proofs.CallPool.{may_be_noted, moved, tied_on, tied_pointed, takes_least}
use Rattle.hd_host.proofs.LiveEntries.{live_stays}
use Rattle.hd_host.proofs.EmptyRegisters.{OthersEmpty, others_pointed, others_stay, emptied}
use Rattle.hd_host.proofs.Refused.{numbers_as_they_were, state_as_it_was, addresses_stay, ages_as_they_were, fails}

-- a host by its parts
abbrev pub parts_of : Machine → List ℕ → Change → HostView
parts_of m stamps last = record { machine = m; stamps = stamps; last = last }

abbrev pub view_of : Machine → List ℕ → Change → HostView
view_of m entries last = parts_of m (stamps_in entries) last

pub known_in : {m : Machine} {stamps : List ℕ} {last : Change} {v : HostView} {context : ℕ}
    → parts_of m stamps last ≡ v → context < v.machine.numbers.callers → context < m.numbers.callers
known_in {context = context} view known =
    subst (λ (x : HostView). context < x.machine.numbers.callers) (sym view) known

module _ {m : Machine} {p : FreeSlots} {stamps : List ℕ} {last : Change} {v : HostView} (host : IsHost m p stamps)
    (view : view_of m stamps last ≡ v) {context : ℕ} (known : context < v.machine.numbers.callers)
    {slot : Option Slot} {c : Cmd} {o : Option Slot} {k : Machine} {e : Entry} (did : HasMoved m context slot c o k e)
    (q : FreeSlots) (offers : Offers p q (change_in m.state context c) o) where
  at : context < m.numbers.callers
  at = known_in view known

  abbrev asked : State
  asked = with_pinned (pointed m context slot).state empty

  goes : Moves (pointed m context slot) e did.after empty
  goes = moved m p q host.tied context at slot c o offers did.after e did.called

  others : IfSome (touched_by c).handle_register (λ h. h ≡ 0) → OthersEmpty did.after.state context
  others first = subst (OthersEmpty did.after.state) did.called.command.0
      (others_stay m.numbers (with_pinned (pointed m context slot).state empty) e
      (with_pinned did.after.state goes.pinned) goes.step
      (subst (λ (x : Cmd). IfSome (touched_by x).handle_register (λ h. h ≡ 0)) (sym did.called.command.1) first)
      (subst (OthersEmpty (pointed m context slot).state) (sym did.called.command.0)
      (others_pointed m.state context slot (λ j h away. host.empty j h))))

  -- what becomes of the handle of each slot
  pub changes : (at : Slot) → HandleChange asked e at e.cmd (handle_at k.state at)
  changes at = subst (λ (x : Machine). HandleChange asked e at e.cmd (handle_at x.state at)) (sym did.new_is)
      (handle_change m.numbers asked (tied_pointed m p context slot (known_in view known) host.tied).well_formed e at
      e.cmd (with_pinned did.after.state goes.pinned)
      (effect m.numbers asked e (with_pinned did.after.state goes.pinned) goes.step))

  pub host_with : (r : FreeSlots) → r ≡ noted q (change_in m.state context c) e.slot e.grown
      → IfSome (touched_by c).handle_register (λ h. h ≡ 0) → (entries : List ℕ) → length entries ≡ length stamps
      → ShowsLive k.state entries → IsHost k r entries
  host_with r is first entries long live = record {
    limits = subst (λ (x : Machine). HasLimits x.numbers) (sym did.new_is) (subst HasLimits (sym goes.numbers)
        host.limits);
    tied = subst (λ (x : Machine). IsTied x.numbers (state_in x) r) (sym did.new_is)
        (tied_on m p q host.tied context at slot c o offers did.after e did.called r is);
    empty = subst (λ (x : Machine). (j h : ℕ) → handle_register_of x.state j h ≡ None) (sym did.new_is)
        (emptied did.after.state context (others first));
    stamps = long ∙ host.stamps ∙ ap (λ (n : Numbers). ROWS * (n.blocks + 1)) (sym goes.numbers)
        ∙ ap (λ (x : Machine). ROWS * (x.numbers.blocks + 1)) (sym did.new_is);
    live = live;
  }

  -- a command that writes no handle register leaves the same slots live
  pub host_after : (r : FreeSlots) → r ≡ noted q (change_in m.state context c) e.slot e.grown
      → (touched_by c).handle_register ≡ None → IsHost k r stamps
  host_after r is none = host_with r is (subst (λ o. IfSome o (λ h. h ≡ 0)) (sym none) tt) stamps refl
      (λ at low. host.live at low ∙ ap (λ b. low_bits b at) (sym (live_stays (changes at)
      (ap (λ (x : Cmd). (touched_by x).handle_register) did.called.command.1 ∙ none))))

  pub may_note_by : MayNote q (change_in m.state context c) e.slot e.grown
  may_note_by = may_be_noted m p q host.tied context at slot c o offers did.after e did.called

  pub stepped_by : HasStepped v.machine context slot c k e
  stepped_by = subst (λ (x : HostView). HasStepped x.machine context slot c k e) view (record {
    after = did.after;
    command_is = did.called.command;
    effect = did.called.effect;
    least = takes_least m p q host.tied context at slot c o offers did.after e did.called;
    addresses = did.called.addresses;
    new_is = did.new_is;
  })

  -- it was done
  pub done_by : is_refused e.reply ≡ false → RepliesTo c e.reply
      → HasDone v context slot c e (view_of k stamps (change_by e.slot e.grown))
  done_by done replies = record {
    stepped = stepped_by;
    done = done;
    replies = replies;
    stamps = ap (λ (x : HostView). x.stamps) view;
    last = refl;
  }

  -- where it was refused, the host is as it was, and its fault is that of the refusal
  pub refused_by : (why : Refusal) → e.reply ≡ reply.Refused why
      → FailsBy v context slot c (fault_of why) × IsAsItWas v (view_of k stamps last)
  refused_by why answer =
      let is = ap is_refused answer in
      let none = host.empty context 0 in (
        fails v context slot c k e stepped_by why answer,
        subst (λ (x : HostView). IsAsItWas x (view_of k stamps last)) view (record {
          numbers = numbers_as_they_were m k context slot c o e did none goes is;
          state = state_as_it_was m k context slot c o e did none goes is;
          addresses = addresses_stay m k context slot c o e did none goes is;
          ages = ages_as_they_were m k context slot c o e did none goes is;
          stamps = refl;
          last = refl;
        }),
      )

-- where memory ran out, nothing is changed
pub host_without : {m k : Machine} {p : FreeSlots} {stamps : List ℕ} {c : Cmd} → RanOut m.numbers m.state c m k
    → IsHost m p stamps → IsHost k p stamps
host_without {p = p} {stamps = stamps} out host = subst (λ (x : Machine). IsHost x p stamps) (sym out.unchanged) host
