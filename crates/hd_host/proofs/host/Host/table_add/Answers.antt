use Rattle.std.proofs.Common.{Option, Result, Some, ap, refl, subst, sym, ℕ, ◌∙◌, ◌≡◌}
use Rattle.hd_commands.specs.Done.{done_making, done_of, entry_by}
use Rattle.hd_model.specs.{declared.data.Grown.Grown, declared.data.Refusal.Refusal, declared.data.Slot.Slot}
use Rattle.hd_model.specs.declared.command.Cmd.TheVariants as cmd
use Rattle.hd_store.specs.Calls.{HasCalled}
use Rattle.hd_slots.specs.Change.{MayNote, noted}
use Rattle.hd_host.specs.{Changes.change_by, Inside.fault_of}
use Rattle.hd_host.specs.View.{HostView}
use Rattle.hd_host.proofs.GrownAdds.{adds, adds_first, adds_none, adds_short, here, host_added, host_back, host_short, host_unadded, may_back, may_note, may_offer}
use Rattle.hd_host.proofs.GrownCalls.{called_numbers}
use Rattle.hd_host.proofs.GrownParts.{callers_grown, sized_with}
use Rattle.hd_host.proofs.RoomOfPools.{offers_blocks}
use Rattle.hd_model.specs.State.{Numbers}
use Rattle.hd_store.specs.Store.{Machine}
use Rattle.hd_host.proofs.host.Host.table_add.Goals as goal

-- what the store's call came to, once its result is known
called_on : {m k : Machine} {context key value : ℕ} {o : Option Slot} {r s : Result (Slot × Grown) Refusal}
    → r ≡ s
    → HasCalled m context (cmd.CAdd key value) o k
    (entry_by context (cmd.CAdd key value) (done_of (done_making r)))
    → HasCalled m context (cmd.CAdd key value) o k
    (entry_by context (cmd.CAdd key value) (done_of (done_making s)))
called_on {m} {k} {context} {key} {value} {o} same called =
    subst (λ r. HasCalled m context (cmd.CAdd key value) o k
    (entry_by context (cmd.CAdd key value) (done_of (done_making r)))) same called

pub make_room-requires : goal.make_room-requires
make_room-requires c =
    sized_with c.self.invariant.sized (offers_blocks c.self.inside.pool c.offer-offered.new.pool
    c.change_by_entry-change.result c.offer-offered.result c.offer-offered.ensures) refl

pub invariant_of-self : goal.invariant_of-self
invariant_of-self c =
    host_short c.self.invariant c.self.view_is c.requires.context c.args.key c.args.value
    c.change_by_entry-change.ensures c.offer-offered.result c.offer-offered.ensures c.make_room.ensures.grown
    c.in-Err.ensures.room

pub returns-in-Err-clause-does : goal.returns-in-Err-clause-does
returns-in-Err-clause-does c =
    adds_short c.self.invariant c.self.view_is c.requires.context c.args.key c.args.value
    c.change_by_entry-change.ensures c.offer-offered.result c.offer-offered.ensures c.make_room.ensures.grown
    c.in-Err.ensures.room

pub returns-in-Err-clause-contexts : goal.returns-in-Err-clause-contexts
returns-in-Err-clause-contexts c =
    callers_grown c.make_room.ensures.grown ∙ ap (λ (v : HostView). v.machine.numbers.callers) c.self.view_is

pub add_entry-requires-clause-caller : goal.add_entry-requires-clause-caller
add_entry-requires-clause-caller c =
    here c.self.invariant c.self.view_is c.requires.context c.args.key c.args.value
    c.change_by_entry-change.ensures c.offer-offered.result c.offer-offered.ensures c.make_room.ensures.grown

pub add_entry-requires-clause-offer : goal.add_entry-requires-clause-offer
add_entry-requires-clause-offer c =
    may_offer c.self.invariant c.self.view_is c.requires.context c.args.key c.args.value
    c.change_by_entry-change.ensures c.offer-offered.result c.offer-offered.ensures c.make_room.ensures.grown

pub note_slot-requires : goal.note_slot-requires
note_slot-requires c =
    subst (λ (x : Slot × Grown). MayNote c.make_room.new.pool c.change_by_entry-change.result (Some x.0) x.1)
    (λ i. (sym c.in-Ok-Ok.slot-is i, sym c.in-Ok-Ok.grown-is i))
    (may_note c.self.invariant c.self.view_is c.requires.context c.args.key c.args.value
    c.change_by_entry-change.ensures c.offer-offered.result c.offer-offered.ensures c.make_room.ensures.grown
    (called_on c.in-Ok-Ok.field-0-is c.in-Ok-Ok.ensures))

pub invariant_of-self-in-Ok-Ok : goal.invariant_of-self-in-Ok-Ok
invariant_of-self-in-Ok-Ok c =
    host_added c.self.invariant c.self.view_is c.requires.context c.args.key c.args.value
    c.change_by_entry-change.ensures c.offer-offered.result c.offer-offered.ensures c.make_room.ensures.grown
    (called_on c.in-Ok-Ok.field-0-is c.in-Ok-Ok.ensures) c.note_slot.new.pool
    (c.note_slot.ensures ∙ (λ i. noted c.make_room.new.pool c.change_by_entry-change.result
    (Some (c.in-Ok-Ok.slot-is i)) (c.in-Ok-Ok.grown-is i)))

pub returns-in-Ok-Ok-clause-does : goal.returns-in-Ok-Ok-clause-does
returns-in-Ok-Ok-clause-does c =
    adds c.self.invariant c.self.view_is c.requires.context c.args.key c.args.value
    c.change_by_entry-change.ensures c.offer-offered.result c.offer-offered.ensures c.make_room.ensures.grown
    (called_on c.in-Ok-Ok.field-0-is c.in-Ok-Ok.ensures)
    (c.set.ensures ∙ (λ i. change_by (Some (c.in-Ok-Ok.slot-is i)) (c.in-Ok-Ok.grown-is i)))

pub returns-in-Ok-Ok-clause-contexts : goal.returns-in-Ok-Ok-clause-contexts
returns-in-Ok-Ok-clause-contexts c =
    ap (λ (n : Numbers). n.callers)
    (called_numbers (called_on c.in-Ok-Ok.field-0-is c.in-Ok-Ok.ensures))
    ∙ callers_grown c.make_room.ensures.grown
    ∙ ap (λ (v : HostView). v.machine.numbers.callers) c.self.view_is

pub invariant_of-self-in-Ok-Err : goal.invariant_of-self-in-Ok-Err
invariant_of-self-in-Ok-Err c =
    host_unadded c.self.invariant c.self.view_is c.requires.context c.args.key c.args.value
    c.change_by_entry-change.ensures c.offer-offered.result c.offer-offered.ensures c.make_room.ensures.grown
    c.in_default.ensures.room (called_on c.in-Ok-Err.field-0-is c.in-Ok-Err.ensures)

pub returns-in-Ok-Err-clause-does : goal.returns-in-Ok-Err-clause-does
returns-in-Ok-Err-clause-does c =
    adds_none c.self.invariant c.self.view_is c.requires.context c.args.key c.args.value
    c.change_by_entry-change.ensures c.offer-offered.result c.offer-offered.ensures c.make_room.ensures.grown
    c.in_default.ensures.room (called_on c.in-Ok-Err.field-0-is c.in-Ok-Err.ensures)
    (c.of.ensures ∙ (λ i. fault_of (c.in-Ok-Err.refusal-is i)))

pub returns-in-Ok-Err-clause-contexts : goal.returns-in-Ok-Err-clause-contexts
returns-in-Ok-Err-clause-contexts c =
    ap (λ (n : Numbers). n.callers)
    (called_numbers (called_on c.in-Ok-Err.field-0-is c.in-Ok-Err.ensures))
    ∙ callers_grown c.make_room.ensures.grown
    ∙ ap (λ (v : HostView). v.machine.numbers.callers) c.self.view_is

pub note_slot-requires-in-Err-add_entry : goal.note_slot-requires-in-Err-add_entry
note_slot-requires-in-Err-add_entry c =
    may_back c.self.invariant c.self.view_is c.requires.context c.args.key c.args.value
    c.change_by_entry-change.ensures c.offer-offered.result c.offer-offered.ensures c.make_room.ensures.grown
    c.in-Err-add_entry.ensures.0 c.in-Err-add_entry.ensures.1

pub invariant_of-self-in-Err-add_entry : goal.invariant_of-self-in-Err-add_entry
invariant_of-self-in-Err-add_entry c =
    host_back c.self.invariant c.self.view_is c.requires.context c.args.key c.args.value
    c.change_by_entry-change.ensures c.offer-offered.result c.offer-offered.ensures c.make_room.ensures.grown
    c.in-Err-add_entry.ensures.0 c.in-Err-add_entry.ensures.1 c.note_slot-in-Err-add_entry.new.pool
    c.note_slot-in-Err-add_entry.ensures

pub returns-in-Err-add_entry-clause-does : goal.returns-in-Err-add_entry-clause-does
returns-in-Err-add_entry-clause-does c =
    adds_first c.self.invariant c.self.view_is c.requires.context c.args.key c.args.value
    c.change_by_entry-change.ensures c.offer-offered.result c.offer-offered.ensures c.make_room.ensures.grown
    c.in-Err-add_entry.ensures.0 c.in-Err-add_entry.ensures.1

pub returns-in-Err-add_entry-clause-contexts : goal.returns-in-Err-add_entry-clause-contexts
returns-in-Err-add_entry-clause-contexts c =
    ap (λ (m : Machine). m.numbers.callers) c.in-Err-add_entry.ensures.1
    ∙ callers_grown c.make_room.ensures.grown
    ∙ ap (λ (v : HostView). v.machine.numbers.callers) c.self.view_is
