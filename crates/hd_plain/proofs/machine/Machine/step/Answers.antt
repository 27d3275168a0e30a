use Rattle.std.proofs.Common.{Option, subst, sym}
use Rattle.std.specs.Prelude.{Result}
use Rattle.hd_model.specs.declared.data.Entry.{Entry}
use Rattle.hd_model.specs.declared.data.Refusal.{Refusal}
use Rattle.hd_model.specs.Step.{way_of}
use Rattle.hd_commands.specs.declared.done.Done.{Done}
use Rattle.hd_plain.specs.ChosenSteps.{IsTheStep, WayComesTo}
use Rattle.hd_plain.proofs.StepWays.{way_steps, way_stops}
use Rattle.hd_plain.proofs.machine.Machine.step.Goals as goal

pub returns-in-Some : goal.returns-in-Some
returns-in-Some c =
    let old = c.args.self.now in
    let choice = c.args.choice.now in
    let new = c.make.new.machine in
    subst (λ (e : Entry). IsTheStep old c.args.cmd choice e new) (sym c.entry_of.ensures)
    (way_steps old new c.args.cmd choice c.requires c.in-Some.made
    (subst
    (λ (o : Option (Result Done Refusal)).
    WayComesTo choice.caller (way_of old.state choice.caller c.args.cmd) choice old new o)
    c.in-Some.is c.in_ok-made.ensures))

pub returns-in-None : goal.returns-in-None
returns-in-None c =
    let old = c.args.self.now in
    let choice = c.args.choice.now in
    let new = c.make.new.machine in
    way_stops old new c.args.cmd choice c.requires
    (subst
    (λ (o : Option (Result Done Refusal)).
    WayComesTo choice.caller (way_of old.state choice.caller c.args.cmd) choice old new o)
    c.in-None.is c.in_ok-made.ensures)
