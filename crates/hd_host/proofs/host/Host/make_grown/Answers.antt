use Rattle.std.proofs.Common.{ap, refl, ◌∙◌}
use Rattle.hd_slots.specs.declared.change.Change.TheVariants.{Takes}
use Rattle.hd_host.specs.View.{HostView}
use Rattle.hd_host.proofs.GrownCalls.{called_numbers}
use Rattle.hd_host.proofs.GrownMakes.{free, here, host_made, host_short, host_unmade, live_made, makes, makes_none, makes_short, may_note, offered_free, small, within}
use Rattle.hd_host.proofs.GrownParts.{callers_grown, sized_with}
use Rattle.hd_host.proofs.RoomOfPools.{offers_blocks}
use Rattle.hd_model.specs.State.{Numbers}
use Rattle.hd_host.proofs.host.Host.make_grown.Goals as goal

pub make_room-requires : goal.make_room-requires
make_room-requires c =
    sized_with c.self.invariant.sized (offers_blocks c.self.inside.pool c.offer-offered.new.pool (Takes c.kind.result)
    c.offer-offered.result c.offer-offered.ensures) refl

pub invariant_of-self : goal.invariant_of-self
invariant_of-self c =
    host_short c.self.invariant c.self.view_is c.requires.context c.args.make c.args.target c.kind.ensures
    c.offer-offered.result c.offer-offered.ensures c.make_room.ensures.grown
    c.in-Err.ensures.room

pub returns-in-Err-clause-does : goal.returns-in-Err-clause-does
returns-in-Err-clause-does c =
    makes_short c.self.invariant c.self.view_is c.requires.context c.args.make c.args.target c.kind.ensures
    c.offer-offered.result c.offer-offered.ensures c.make_room.ensures.grown
    c.in-Err.ensures.room

pub returns-in-Err-clause-contexts : goal.returns-in-Err-clause-contexts
returns-in-Err-clause-contexts c =
    callers_grown c.make_room.ensures.grown ∙ ap (λ (v : HostView). v.machine.numbers.callers) c.self.view_is

pub make_handle-requires-clause-caller : goal.make_handle-requires-clause-caller
make_handle-requires-clause-caller c =
    here c.self.invariant c.self.view_is c.requires.context c.args.make c.args.target c.kind.ensures
    c.offer-offered.result c.offer-offered.ensures c.make_room.ensures.grown

pub make_handle-requires-clause-offer : goal.make_handle-requires-clause-offer
make_handle-requires-clause-offer c =
    offered_free c.self.invariant c.self.view_is c.requires.context c.args.make c.args.target c.kind.ensures
    c.offer-offered.result c.offer-offered.ensures c.make_room.ensures.grown

pub note_slot-requires : goal.note_slot-requires
note_slot-requires c =
    may_note c.self.invariant c.self.view_is c.requires.context c.args.make c.args.target c.kind.ensures
    c.offer-offered.result c.offer-offered.ensures c.make_room.ensures.grown
    c.make_handle.new.self c.in-Ok.ensures

pub make-requires-clause-slot : goal.make-requires-clause-slot
make-requires-clause-slot c =
    within c.self.invariant c.self.view_is c.requires.context c.args.make c.args.target c.kind.ensures
    c.offer-offered.result c.offer-offered.ensures c.make_room.ensures.grown
    c.make_handle.new.self c.in-Ok.ensures

pub make-requires-clause-small : goal.make-requires-clause-small
make-requires-clause-small c =
    small c.self.invariant c.self.view_is c.requires.context c.args.make c.args.target c.kind.ensures
    c.offer-offered.result c.offer-offered.ensures c.make_room.ensures.grown
    c.make_handle.new.self c.in-Ok.ensures

pub make-requires-clause-free : goal.make-requires-clause-free
make-requires-clause-free c =
    free c.self.invariant c.self.view_is c.requires.context c.args.make c.args.target c.kind.ensures
    c.offer-offered.result c.offer-offered.ensures c.make_room.ensures.grown
    c.make_handle.new.self c.in-Ok.ensures

pub invariant_of-self-in-Ok : goal.invariant_of-self-in-Ok
invariant_of-self-in-Ok c =
    host_made c.self.invariant c.self.view_is c.requires.context c.args.make c.args.target c.kind.ensures
    c.offer-offered.result c.offer-offered.ensures c.make_room.ensures.grown
    c.make_handle.new.self c.in-Ok.ensures c.make.ensures c.note_slot.new.pool c.note_slot.ensures

pub handle_in-requires : goal.handle_in-requires
handle_in-requires c =
    live_made c.self.invariant c.self.view_is c.requires.context c.args.make c.args.target c.kind.ensures
    c.offer-offered.result c.offer-offered.ensures c.make_room.ensures.grown
    c.make_handle.new.self c.in-Ok.ensures

pub returns-in-Ok-clause-does : goal.returns-in-Ok-clause-does
returns-in-Ok-clause-does c =
    makes c.self.invariant c.self.view_is c.requires.context c.args.make c.args.target c.kind.ensures
    c.offer-offered.result c.offer-offered.ensures c.make_room.ensures.grown
    c.make_handle.new.self c.in-Ok.ensures c.make.ensures c.set.ensures c.handle_in.ensures

pub returns-in-Ok-clause-contexts : goal.returns-in-Ok-clause-contexts
returns-in-Ok-clause-contexts c =
    ap (λ (n : Numbers). n.callers) (called_numbers c.in-Ok.ensures.0) ∙ callers_grown c.make_room.ensures.grown
    ∙ ap (λ (v : HostView). v.machine.numbers.callers) c.self.view_is

pub invariant_of-self-in-Err-make_handle : goal.invariant_of-self-in-Err-make_handle
invariant_of-self-in-Err-make_handle c =
    host_unmade c.self.invariant c.self.view_is c.requires.context c.args.make c.args.target c.kind.ensures
    c.offer-offered.result c.offer-offered.ensures c.make_room.ensures.grown
    c.make_handle.new.self c.in_default.ensures.room c.in-Err-make_handle.ensures

pub returns-in-Err-make_handle-clause-does : goal.returns-in-Err-make_handle-clause-does
returns-in-Err-make_handle-clause-does c =
    makes_none c.self.invariant c.self.view_is c.requires.context c.args.make c.args.target c.kind.ensures
    c.offer-offered.result c.offer-offered.ensures c.make_room.ensures.grown
    c.make_handle.new.self c.in_default.ensures.room c.in-Err-make_handle.ensures c.of.ensures

pub returns-in-Err-make_handle-clause-contexts : goal.returns-in-Err-make_handle-clause-contexts
returns-in-Err-make_handle-clause-contexts c =
    ap (λ (n : Numbers). n.callers) (called_numbers c.in-Err-make_handle.ensures.0)
    ∙ callers_grown c.make_room.ensures.grown ∙ ap (λ (v : HostView). v.machine.numbers.callers) c.self.view_is
