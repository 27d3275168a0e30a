use Rattle.std.proofs.Common.{Some, ap, ◌∙◌}
use Rattle.hd_model.specs.State.{Numbers}
use Rattle.hd_slots.specs.declared.change.Change.TheVariants.{Takes}
use Rattle.hd_host.specs.View.{HostView}
use Rattle.hd_host.proofs.GrownCalls.{called_numbers}
use Rattle.hd_host.proofs.GrownMakes.{host_made, live_made, makes, none_grown, none_noted}
use Rattle.hd_host.proofs.host.Host.make_any.Goals as goal

pub invariant_of-self-in-Ok : goal.invariant_of-self-in-Ok
invariant_of-self-in-Ok c =
    host_made c.self.invariant c.self.view_is c.requires.context c.args.make c.args.target c.kind.ensures
    (Some c.in-Some.free) c.in-Some.ensures
    (none_grown c.self.invariant (Takes c.kind.result) (Some c.in-Some.free) c.in-Some.ensures)
    c.make_handle.new.self c.in-Ok.ensures c.make.ensures c.offer.new.pool
    (none_noted c.offer.new.pool c.kind.result c.in-Ok.ensures.0)

pub handle_in-requires : goal.handle_in-requires
handle_in-requires c =
    live_made c.self.invariant c.self.view_is c.requires.context c.args.make c.args.target c.kind.ensures
    (Some c.in-Some.free) c.in-Some.ensures
    (none_grown c.self.invariant (Takes c.kind.result) (Some c.in-Some.free) c.in-Some.ensures)
    c.make_handle.new.self c.in-Ok.ensures

pub returns-in-Ok-clause-does : goal.returns-in-Ok-clause-does
returns-in-Ok-clause-does c =
    makes c.self.invariant c.self.view_is c.requires.context c.args.make c.args.target c.kind.ensures
    (Some c.in-Some.free) c.in-Some.ensures
    (none_grown c.self.invariant (Takes c.kind.result) (Some c.in-Some.free) c.in-Some.ensures)
    c.make_handle.new.self c.in-Ok.ensures c.make.ensures c.set.ensures c.handle_in.ensures

pub returns-in-Ok-clause-contexts : goal.returns-in-Ok-clause-contexts
returns-in-Ok-clause-contexts c =
    ap (λ (n : Numbers). n.callers) (called_numbers c.in-Ok.ensures.0)
    ∙ ap (λ (v : HostView). v.machine.numbers.callers) c.self.view_is
