-- An entry that is added to the weak table.
use Rattle.std.proofs.Common.{List, None, Option, Some, refl, subst, sym, ℕ, ◌<◌, ◌≡◌}
use Rattle.hd_model.specs.{declared.data.Entry.Entry, declared.data.Grown.Grown, declared.data.Refusal.Refusal, declared.data.Slot.Slot}
use Rattle.hd_model.specs.declared.command.Cmd.TheVariants as cmd
use Rattle.hd_model.specs.declared.data.Reply.TheVariants as reply
use Rattle.hd_model.specs.declared.data.Grown.TheVariants.{Zero}
use Rattle.hd_pool.specs.Pool.{FreeSlots}
use Rattle.hd_slots.specs.Change.{MayNote, Offers, change_in, noted}
use Rattle.hd_slots.specs.declared.change.Change.{Change as Slots}
use Rattle.hd_slots.specs.declared.change.Change.TheVariants.{Takes, Adds, Frees, GivesBack, Keeps}
use Rattle.hd_store.specs.{Calls.HasCalled, Offers.IsOffer, Store.Machine}
use Rattle.hd_host.specs.{declared.change.Change.Change, declared.fault.Fault.Fault, Calls.AddsEntry, Calls.FailsBy, Changes.change_by, View.HostView, View.IsAsItWas, Inside.fault_of, Inside.HasMoved, Inside.IsHost}
use Rattle.hd_host.proofs.CallPool.{may_be_offered}
use Rattle.hd_host.proofs.CallHost.{done_by, host_after, known_in, may_note_by, refused_by, view_of}
use Rattle.hd_host.proofs.{MadeHandle.refused_entry, ValueCalls.moved_plainly}

abbrev pub added_entry : ℕ → ℕ → ℕ → Slot → Grown → Entry
added_entry context key value slot grown =
    record { caller = context; cmd = cmd.CAdd key value; slot = Some slot; grown = grown; reply = reply.Done }

-- a command that gives and frees no slot changes no pool
noted_none : (q : FreeSlots) (change : Slots) → q ≡ noted q change None Zero
noted_none q (Takes kind) = refl
noted_none q Adds = refl
noted_none q Frees = refl
noted_none q (GivesBack kind) = refl
noted_none q Keeps = refl

module _ {m : Machine} {p : FreeSlots} {stamps : List ℕ} {last : Change} {v : HostView} (host : IsHost m p stamps)
    (view : view_of m stamps last ≡ v) {context : ℕ} (known : context < v.machine.numbers.callers) (key value : ℕ)
    (q : FreeSlots) (o : Option Slot) {change : Slots} (change_is : change ≡ change_in m.state context (cmd.CAdd key value))
    (given : Offers p q change o) where
  offers : Offers p q (change_in m.state context (cmd.CAdd key value)) o
  offers = subst (λ x. Offers p q x o) change_is given

  pub may_offer : IsOffer m.state context (cmd.CAdd key value) o
  may_offer = may_be_offered m p q host.tied context (known_in view known) None (cmd.CAdd key value) o offers

  module _ {k : Machine} {slot : Slot} {grown : Grown}
      (called : HasCalled m context (cmd.CAdd key value) o k (added_entry context key value slot grown)) where
    did : HasMoved m context None (cmd.CAdd key value) o k (added_entry context key value slot grown)
    did = moved_plainly host called refl

    pub may_note : MayNote q change (Some slot) grown
    may_note = subst (λ x. MayNote q x (Some slot) grown) (sym change_is) (may_note_by host view known did q offers)

    pub host_added : (r : FreeSlots) → r ≡ noted q change (Some slot) grown → IsHost k r stamps
    host_added r is = host_after host view known did q offers r
        (subst (λ x. r ≡ noted q x (Some slot) grown) change_is is) refl

    pub adds : {after : Change} → after ≡ change_by (Some slot) grown
        → AddsEntry v context key value (view_of k stamps after)
    adds after_is = subst (λ (z : Change). AddsEntry v context key value (view_of k stamps z)) (sym after_is) (record {
      entry = added_entry context key value slot grown;
      done = done_by host view known did q offers refl refl;
      reply = refl;
    })

  module _ {k : Machine} {why : Refusal}
      (called : HasCalled m context (cmd.CAdd key value) o k (refused_entry context (cmd.CAdd key value) why)) where
    none : HasMoved m context None (cmd.CAdd key value) o k (refused_entry context (cmd.CAdd key value) why)
    none = moved_plainly host called refl

    pub host_unadded : IsHost k q stamps
    host_unadded = host_after host view known none q offers q
        (noted_none q (change_in m.state context (cmd.CAdd key value))) refl

    pub adds_none : {fault : Fault} → fault ≡ fault_of why
        → FailsBy v context None (cmd.CAdd key value) fault × IsAsItWas v (view_of k stamps last)
    adds_none is = subst (λ f. FailsBy v context None (cmd.CAdd key value) f × IsAsItWas v (view_of k stamps last))
        (sym is) (refused_by host view known none q offers why refl)
