-- A command by a live handle that is refused fails with the slot of the handle.
use Rattle.std.proofs.Common.{Some, ap, false, inl, refl, subst, sym, true, ℕ, ◌<◌, ◌∙◌, ◌≡◌}
use Rattle.std.proofs.lemmas.Bool.{true≢false}
use Rattle.std.specs.FinMap.{empty}
use Rattle.hd_model.proofs.{AgedRuns.nothing_at, MapEntries.some_value}
use Rattle.hd_model.specs.{declared.command.Cmd.Cmd, declared.data.Entry.Entry, declared.data.Refusal.Refusal, declared.data.Slot.Slot, PinnedAddresses.with_pinned, Touched.touched_by}
use Rattle.hd_model.specs.declared.data.Refusal.TheVariants as refusal
use Rattle.hd_model.specs.declared.data.Reply.TheVariants as reply
use Rattle.hd_model.specs.State.{handle_at, handle_register_of}
use Rattle.hd_store.specs.Store.{Machine}
use Rattle.hd_host.specs.declared.handle.Handle.{Handle}
use Rattle.hd_host.specs.{Calls.FailsOf, Calls.IsRefused, Handles.IsOf, Steps.HasStepped, Steps.pointed, View.HostView, Inside.fault_of}
use Rattle.hd_host.proofs.{LiveHandles.finds_none, LiveHandles.live_found, WholeHost.IsWhole}

module _ {v : HostView} (whole : IsWhole v) {context : ℕ} (known : context < v.machine.numbers.callers)
    {handle : Handle} {slot : Slot} (of : IsOf v handle slot) {c : Cmd} (about : (touched_by c).handle ≡ Some 0)
    {k : Machine} {e : Entry} (stepped : HasStepped v.machine context (Some slot) c k e) where
  -- the handle was found
  was_found : finds_none e.reply ≡ false
  was_found =
      let asked = with_pinned (pointed v.machine context (Some slot)).state empty in
      let goes = stepped.effect empty (λ x at found. absurd (nothing_at x at found)) in
      let held = some_value (handle_at v.machine.state slot) of.live in
      live_found v.machine.numbers asked e (with_pinned stepped.after.state goes.pinned) 0 slot held.0
      (subst (λ j. handle_register_of asked j 0 ≡ Some slot) (sym stepped.command_is.0)
      (whole.named context slot known)) held.1 e.cmd goes.step.does
      (subst (λ (x : Cmd). (touched_by x).handle ≡ Some 0) (sym stepped.command_is.1) about)

  module _ (why : Refusal) (refused : e.reply ≡ reply.Refused why) where
    at : IsRefused v context (Some slot) c why
    at = record { entry = e; after = k; stepped = stepped; reply = refused }

    not_lost : finds_none (reply.Refused why) ≡ true → ⊥
    not_lost none = true≢false (sym none ∙ sym (ap finds_none refused) ∙ was_found)

  pub refused_of : (why : Refusal) → e.reply ≡ reply.Refused why → FailsOf v context handle c (fault_of why)
  refused_of refusal.NotLive r = absurd (not_lost refusal.NotLive r refl)
  refused_of refusal.EmptyRegister r = absurd (not_lost refusal.EmptyRegister r refl)
  refused_of refusal.Null r = (slot, of, at refusal.Null r)
  refused_of refusal.BadField r = (slot, of, at refusal.BadField r)
  refused_of (refusal.HeapFull used size) r = (slot, of, inl (at (refusal.HeapFull used size) r))
  refused_of (refusal.TableFull given) r = (slot, of, at (refusal.TableFull given) r)
  refused_of refusal.WrongKind r = (slot, of, at refusal.WrongKind r)
  refused_of refusal.CountZero r = (slot, of, at refusal.CountZero r)
  refused_of refusal.Present r = (slot, of, at refusal.Present r)
