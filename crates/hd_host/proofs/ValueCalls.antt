-- A call by value of the store is one command of a host.
pub use Rattle.std.proofs.Common.{refl}
pub use Rattle.hd_host.proofs.Registers.{called_numbers}
use Rattle.std.proofs.Common.{Err, List, None, Ok, Option, Result, Some, ap, arith, false, subst, sym, ℕ, ◌<◌, ◌∙◌, ◌≡◌}
use Rattle.std.specs.{FinMap.empty}
use Rattle.hd_model.proofs.{AgedRuns.nothing_at, StepFrames.untouched_stays}
use Rattle.hd_model.specs.{declared.command.Cmd.Cmd, declared.data.Entry.Entry, declared.data.Refusal.Refusal, declared.data.Reply.Reply, declared.data.Slot.Slot, Aging.is_refused, PinnedAddresses.with_pinned, State.Numbers, State.handle_register_of, Touched.touched_by}
use Rattle.hd_model.specs.declared.data.Reply.TheVariants as reply
use Rattle.hd_commands.specs.Done.{entry_by, replied}
use Rattle.hd_pool.specs.Pool.{FreeSlots}
use Rattle.hd_slots.specs.Change.{Offers, change_in, noted}
use Rattle.hd_slots.specs.declared.change.Change.TheVariants.{Keeps}
use Rattle.hd_store.specs.{Calls.HasCalled, Calls.HasReturned, Calls.HasReturnedOf, Calls.KeepsFirst, Calls.pointed, Store.Machine}
use Rattle.hd_host.specs.{declared.change.Change.Change, declared.fault.Fault.Fault, declared.handle.Handle.Handle, Calls.FailsBy, Calls.FailsOf, Calls.HasReplied, Calls.RepliesOf, Calls.Tries, Calls.TriesOf, Changes.change_by, Changes.no_change, Handles.IsOf, Replies.RepliesTo, View.HostView, View.IsAsItWas, Inside.fault_of, Inside.HasMoved, Inside.IsHost, Inside.Settled}
use Rattle.hd_host.proofs.CallHost.{done_by, host_after, parts_of, refused_by, stepped_by, view_of}
use Rattle.hd_host.proofs.{HandleRefused.refused_of, Registers.not_pointed, Registers.pointed-again, WholeHost.whole}

-- the number of contexts stays
pub callers_by : {m : Machine} {stamps : List ℕ} {last : Change} {v : HostView} {n : Numbers} → parts_of m stamps last ≡ v
    → n ≡ m.numbers → n.callers ≡ v.machine.numbers.callers
callers_by view same = ap (λ n. n.callers) same ∙ ap (λ (x : HostView). x.machine.numbers.callers) view

-- there is a context 0
pub some_context : {m : Machine} {p : FreeSlots} {stamps : List ℕ} {last : Change} {v : HostView} → IsHost m p stamps
    → view_of m stamps last ≡ v → 0 < v.machine.numbers.callers
some_context host view = omega (arith, (whole host view).limits.callers.0)

-- ---- a command that writes no handle register, by no handle

module _ {m : Machine} {p : FreeSlots} {stamps : List ℕ} (host : IsHost m p stamps) {context : ℕ} {c : Cmd}
    {o : Option Slot} {k : Machine} {e : Entry} (called : HasCalled m context c o k e)
    (none : (touched_by c).handle_register ≡ None) where
  stays : k.state.handle_registers ≡ m.state.handle_registers
  stays =
      let goes = called.effect empty (λ x at found. absurd (nothing_at x at found)) in
      (untouched_stays m.numbers (with_pinned m.state empty) (with_pinned k.state goes.pinned) e
      goes.step).handle_registers
      (ap (λ (x : Cmd). (touched_by x).handle_register) called.command.1 ∙ none)

  pub moved_plainly : HasMoved m context None c o k e
  moved_plainly = record {
    after = k;
    called = subst (λ (x : Machine). HasCalled x context c o k e)
        (sym (not_pointed m context (host.empty context 0))) called;
    new_is = sym (not_pointed k context
        (ap (λ rows. handle_register_of (record k.state { handle_registers = rows }) context 0) stays
        ∙ host.empty context 0));
  }

-- so it leaves the pool as it was
module _ {m : Machine} {p : FreeSlots} {stamps : List ℕ} {last : Change} {v : HostView} (host : IsHost m p stamps)
    (view : view_of m stamps last ≡ v) {context : ℕ} (known : context < v.machine.numbers.callers) {slot : Option Slot}
    {c : Cmd} {k : Machine} {e : Entry} (did : HasMoved m context slot c None k e)
    (keeps : change_in m.state context c ≡ Keeps) where
  unoffered : Offers p p (change_in m.state context c) None
  unoffered = subst (λ x. Offers p p x None) (sym keeps) (refl, refl)

  pub host_kept : (touched_by c).handle_register ≡ None → IsHost k p stamps
  host_kept none =
      host_after host view known did p unoffered p (ap (λ x. noted p x e.slot e.grown) (sym keeps)) none

  pub replied_by : is_refused e.reply ≡ false → RepliesTo c e.reply
      → HasReplied v context slot c e.reply (view_of k stamps (change_by e.slot e.grown))
  replied_by done replies =
      record { entry = e; done = done_by host view known did p unoffered done replies; reply = refl }

  pub fails_by : (why : Refusal) → e.reply ≡ reply.Refused why
      → FailsBy v context slot c (fault_of why) × IsAsItWas v (view_of k stamps last)
  fails_by = refused_by host view known did p unoffered

-- ---- what a call by no handle comes to

module _ {m : Machine} {p : FreeSlots} {stamps : List ℕ} {last : Change} {v : HostView} (host : IsHost m p stamps)
    (view : view_of m stamps last ≡ v) {context : ℕ} (known : context < v.machine.numbers.callers) {c : Cmd}
    (none : (touched_by c).handle_register ≡ None) (keeps : change_in m.state context c ≡ Keeps) {k : Machine} where
  pub host_on : {e : Entry} → HasCalled m context c None k e → IsHost k p stamps
  host_on called = host_kept host view known (moved_plainly host called none) keeps none

  -- it is never refused
  pub replied_on : (answer : Reply) → HasCalled m context c None k (entry_by context c (replied answer))
      → is_refused answer ≡ false → RepliesTo c answer → {after : Change} → after ≡ no_change
      → HasReplied v context None c answer (view_of k stamps after)
  replied_on answer called done replies now =
      subst (λ z. HasReplied v context None c answer (view_of k stamps z)) (sym now)
      (replied_by host view known (moved_plainly host called none) keeps done replies)

  -- or it may be
  pub tried : {T : Type 0} (f : T → Reply) (r : Result T Refusal) → HasReturned m context c f k r
      → ((x : T) → is_refused (f x) ≡ false) → ((x : T) → RepliesTo c (f x)) → (after : Change) (result : Result T Fault)
      → Settled last r after result → Tries v context c f (view_of k stamps after) result
  tried f (Ok x) called done replies after result settled =
      subst (λ y. Tries v context c f (view_of k stamps after) y) (sym settled.0)
      (replied_on (f x) called (done x) (replies x) settled.1)
  tried f (Err why) called done replies after result settled =
      subst (λ y. Tries v context c f (view_of k stamps after) y) (sym settled.0)
      (subst (λ z. FailsBy v context None c (fault_of why) × IsAsItWas v (view_of k stamps z)) (sym settled.1)
      (fails_by host view known (moved_plainly host called none) keeps why refl))

-- ---- what a call by a handle comes to

module _ {m : Machine} {p : FreeSlots} {stamps : List ℕ} {last : Change} {v : HostView} (host : IsHost m p stamps)
    (view : view_of m stamps last ≡ v) {context : ℕ} (known : context < v.machine.numbers.callers) {handle : Handle}
    {slot : Slot} (of : IsOf v handle slot) {c : Cmd} (about : (touched_by c).handle ≡ Some 0)
    (none : (touched_by c).handle_register ≡ None) (keeps : change_in m.state context c ≡ Keeps) (k : Machine) where
  did_of : {e : Entry} → HasCalled (pointed m context (Some slot)) context c None (pointed k context (Some slot)) e
      → KeepsFirst m context k → HasMoved m context (Some slot) c None k e
  did_of called first = record {
    after = pointed k context (Some slot);
    called = called;
    new_is = sym (pointed-again k context (Some slot) (first ∙ host.empty context 0));
  }

  pub host_of : {e : Entry} → HasCalled (pointed m context (Some slot)) context c None (pointed k context (Some slot)) e
      × KeepsFirst m context k → IsHost k p stamps
  host_of called = host_kept host view known (did_of called.0 called.1) keeps none

  pub replied_of : (answer : Reply)
      → HasCalled (pointed m context (Some slot)) context c None (pointed k context (Some slot))
      (entry_by context c (replied answer)) × KeepsFirst m context k
      → is_refused answer ≡ false → RepliesTo c answer → {after : Change} → after ≡ no_change
      → RepliesOf v context handle c answer (view_of k stamps after)
  replied_of answer called done replies now = subst (λ z. RepliesOf v context handle c answer (view_of k stamps z))
      (sym now) (record {
        slot = slot;
        handle_is = of;
        replied = replied_by host view known (did_of called.0 called.1) keeps done replies;
      })

  pub tried_of : {T : Type 0} (f : T → Reply) (r : Result T Refusal) → HasReturnedOf m context slot c f k r
      → ((x : T) → is_refused (f x) ≡ false) → ((x : T) → RepliesTo c (f x)) → (after : Change) (result : Result T Fault)
      → Settled last r after result → TriesOf v context handle c f (view_of k stamps after) result
  tried_of f (Ok x) called done replies after result settled =
      subst (λ y. TriesOf v context handle c f (view_of k stamps after) y) (sym settled.0)
      (replied_of (f x) called (done x) (replies x) settled.1)
  tried_of f (Err why) called done replies after result settled =
      let did = did_of called.0 called.1 in
      let stays = (fails_by host view known did keeps why refl).1 in
      let stepped = stepped_by host view known did p (subst (λ x. Offers p p x None) (sym keeps) (refl, refl)) in
      subst (λ y. TriesOf v context handle c f (view_of k stamps after) y) (sym settled.0)
      (subst (λ z. FailsOf v context handle c (fault_of why) × IsAsItWas v (view_of k stamps z)) (sym settled.1)
      (refused_of (whole host view) known of about stepped why refl, stays))
