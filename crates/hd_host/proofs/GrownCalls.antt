-- A call by value of the store is one command of a host that has some of its blocks so far.
pub use Rattle.std.proofs.Common.{refl}
pub use Rattle.hd_host.proofs.Registers.{called_numbers}
use Rattle.std.proofs.Common.{List, None, Result, Some, ap, false, subst, sym, ℕ, ◌<◌, ◌∙◌, ◌≡◌}
use Rattle.hd_model.specs.{declared.command.Cmd.Cmd, declared.data.Entry.Entry, declared.data.Refusal.Refusal, declared.data.Reply.Reply, declared.data.Slot.Slot, Aging.is_refused, State.Numbers, Touched.touched_by}
use Rattle.hd_model.specs.declared.data.Reply.TheVariants as reply
use Rattle.hd_commands.specs.Done.{entry_by, replied}
use Rattle.hd_pool.specs.Pool.{FreeSlots}
use Rattle.hd_slots.specs.Change.{change_in}
use Rattle.hd_slots.specs.declared.change.Change.TheVariants.{Keeps}
use Rattle.hd_store.proofs.SoundCalls.{sound-pointed}
use Rattle.hd_store.specs.{Calls.HasCalled, Calls.HasReturned, Calls.HasReturnedOf, Calls.KeepsFirst, Calls.pointed, Growth.with_blocks, Offers.RanOut, Store.Machine}
use Rattle.hd_host.specs.{declared.change.Change.Change, declared.fault.Fault.Fault, declared.handle.Handle.Handle, Calls.FailsBy, Calls.HasReplied, Calls.RepliesOf, Calls.Tries, Calls.TriesOf, Changes.no_change, Handles.IsOf, Handles.padded, Replies.RepliesTo, View.HostView, View.IsAsItWas, Inside.IsGrown, Inside.Settled, Inside.fault_of}
use Rattle.hd_host.proofs.CallHost.{known_in, view_of}
use Rattle.hd_host.proofs.RoomOfPools.{room_kept}
use Rattle.hd_host.proofs.ValueCalls as whole
use Rattle.hd_host.proofs.WiderCall.{sized_called, sized_of, wide_called}

-- a host by its parts, as it is seen
abbrev pub shown : (limit : ℕ) → Machine → List ℕ → Change → HostView
shown limit m entries last = view_of (with_blocks limit m) (padded limit entries) last

-- the number of contexts stays
pub callers_by : {limit : ℕ} {m : Machine} {p : FreeSlots} {entries : List ℕ} {last : Change} {v : HostView} {n : Numbers}
    → IsGrown limit m p entries → shown limit m entries last ≡ v → n ≡ m.numbers
    → n.callers ≡ v.machine.numbers.callers
callers_by grown view same =
    ap (λ (n : Numbers). n.callers) same ∙ ap (λ (x : HostView). x.machine.numbers.callers) view

-- there is a context 0
pub some_context : {limit : ℕ} {m : Machine} {p : FreeSlots} {entries : List ℕ} {last : Change} {v : HostView}
    → IsGrown limit m p entries → shown limit m entries last ≡ v → 0 < v.machine.numbers.callers
some_context grown view = whole.some_context grown.host view

-- where memory ran out, nothing is changed
pub host_without : {limit : ℕ} {m k : Machine} {p : FreeSlots} {entries : List ℕ} {c : Cmd}
    → RanOut m.numbers m.state c m k → IsGrown limit m p entries → IsGrown limit k p entries
host_without {limit} {p = p} {entries = entries} out grown =
    subst (λ (x : Machine). IsGrown limit x p entries) (sym out.unchanged) grown

-- ---- a call by no handle

module _ {limit : ℕ} {m : Machine} {p : FreeSlots} {entries : List ℕ} {last : Change} {v : HostView}
    (grown : IsGrown limit m p entries) (view : shown limit m entries last ≡ v) {context : ℕ}
    (known : context < v.machine.numbers.callers) {c : Cmd} (none : (touched_by c).handle_register ≡ None)
    (keeps : change_in m.state context c ≡ Keeps) {k : Machine} where
  pub wide : {e : Entry} → HasCalled m context c None k e
      → HasCalled (with_blocks limit m) context c None (with_blocks limit k) e
  wide called = wide_called grown.sized.sound grown.sized.ages grown.sized.few called
      (room_kept limit _ _ m.state context c keeps)

  pub host_on : {e : Entry} → HasCalled m context c None k e → IsGrown limit k p entries
  host_on called = record {
    host = whole.host_on grown.host view known none keeps (wide called);
    sized = sized_called grown.sized called;
  }

  -- it is never refused
  pub replied_on : (answer : Reply) → HasCalled m context c None k (entry_by context c (replied answer))
      → is_refused answer ≡ false → RepliesTo c answer → {after : Change} → after ≡ no_change
      → HasReplied v context None c answer (shown limit k entries after)
  replied_on answer called done replies now =
      whole.replied_on grown.host view known none keeps answer (wide called) done replies now

  -- or it may be
  pub tried : {T : Type 0} (f : T → Reply) (r : Result T Refusal) → HasReturned m context c f k r
      → ((x : T) → is_refused (f x) ≡ false) → ((x : T) → RepliesTo c (f x)) → (after : Change) (result : Result T Fault)
      → Settled last r after result → Tries v context c f (shown limit k entries after) result
  tried f r called done replies after result settled =
      whole.tried grown.host view known none keeps f r (wide called) done replies after result settled

  pub fails_by : {e : Entry} → HasCalled m context c None k e → (why : Refusal) → e.reply ≡ reply.Refused why
      → FailsBy v context None c (fault_of why) × IsAsItWas v (shown limit k entries last)
  fails_by called why is =
      whole.fails_by grown.host view known (whole.moved_plainly grown.host (wide called) none) keeps why is

-- ---- a call by a handle

module _ {limit : ℕ} {m : Machine} {p : FreeSlots} {entries : List ℕ} {last : Change} {v : HostView}
    (grown : IsGrown limit m p entries) (view : shown limit m entries last ≡ v) {context : ℕ}
    (known : context < v.machine.numbers.callers) {handle : Handle} {slot : Slot} (of : IsOf v handle slot) {c : Cmd}
    (about : (touched_by c).handle ≡ Some 0) (none : (touched_by c).handle_register ≡ None)
    (keeps : change_in m.state context c ≡ Keeps) (k : Machine) where
  wide_of : {e : Entry} → HasCalled (pointed m context (Some slot)) context c None (pointed k context (Some slot)) e
      → HasCalled (pointed (with_blocks limit m) context (Some slot)) context c None
      (pointed (with_blocks limit k) context (Some slot)) e
  wide_of called = wide_called (sound-pointed m context 0 (Some slot) grown.sized.sound (known_in view known))
      grown.sized.ages grown.sized.few called (room_kept limit _ _ m.state context c keeps)

  pub host_of : {e : Entry} → HasCalled (pointed m context (Some slot)) context c None (pointed k context (Some slot)) e
      × KeepsFirst m context k → IsGrown limit k p entries
  host_of called = record {
    host = whole.host_of grown.host view known of about none keeps (with_blocks limit k) (wide_of called.0, called.1);
    sized = sized_of grown.sized (known_in view known) (Some slot) (Some slot) called.0
        (called.1 ∙ grown.host.empty context 0);
  }

  pub replied_of : (answer : Reply)
      → HasCalled (pointed m context (Some slot)) context c None (pointed k context (Some slot))
      (entry_by context c (replied answer)) × KeepsFirst m context k
      → is_refused answer ≡ false → RepliesTo c answer → {after : Change} → after ≡ no_change
      → RepliesOf v context handle c answer (shown limit k entries after)
  replied_of answer called done replies now =
      whole.replied_of grown.host view known of about none keeps (with_blocks limit k) answer
      (wide_of called.0, called.1) done replies now

  pub tried_of : {T : Type 0} (f : T → Reply) (r : Result T Refusal) → HasReturnedOf m context slot c f k r
      → ((x : T) → is_refused (f x) ≡ false) → ((x : T) → RepliesTo c (f x)) → (after : Change) (result : Result T Fault)
      → Settled last r after result → TriesOf v context handle c f (shown limit k entries after) result
  tried_of f r called done replies after result settled =
      whole.tried_of grown.host view known of about none keeps (with_blocks limit k) f r
      (wide_of called.0, called.1) done replies after result settled
