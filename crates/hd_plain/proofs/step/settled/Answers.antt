use Rattle.std.proofs.Common.{refl, subst, sym}
use Rattle.hd_model.specs.declared.command.Cmd.{Cmd}
use Rattle.hd_model.specs.Step.{collects, way_of}
use Rattle.hd_plain.specs.declared.choice.Choice.{Choice}
use Rattle.hd_commands.specs.declared.done.Done.{Done}
use Rattle.hd_plain.specs.ChosenSteps.{GoesBy}
use Rattle.hd_commands.specs.Done.{done_of}
use Rattle.hd_plain.proofs.StepWays.{collect_goes, root_goes}
use Rattle.hd_plain.proofs.step.settled.Goals as goal

pub returns-then-needs_parts_alone : goal.returns-then-needs_parts_alone
returns-then-needs_parts_alone c = c.decide.ensures

pub returns-in_ok-report-in-Collect : goal.returns-in_ok-report-in-Collect
returns-in_ok-report-in-Collect c =
    let old = c.args.machine.now in
    let new = c.collect.new.self in
    let found = c.in_ok-report-in-Collect in
    λ (choice : Choice).
    subst
    (λ (k : Cmd). (x : Cmd)
    → GoesBy c.args.caller x (way_of old.state c.args.caller k) choice old new c.of.result)
    (sym c.in-Collect.is)
    (subst (λ (m : Done). (x : Cmd) → GoesBy c.args.caller x (collects c.in-Collect.n) choice old new m)
    (sym c.of.ensures)
    (collect_goes c.args.caller choice old new c.in-Collect.n found.report found.ensures.collects
    found.ensures.numbers))

pub returns-in_ok-reply_root-in-GcRoot : goal.returns-in_ok-reply_root-in-GcRoot
returns-in_ok-reply_root-in-GcRoot c =
    let old = c.args.machine.now in
    let found = c.in_ok-reply_root-in-GcRoot in
    λ (choice : Choice).
    subst
    (λ (k : Cmd). (x : Cmd)
    → GoesBy c.args.caller x (way_of old.state c.args.caller k) choice old old (done_of found.field-0))
    (sym c.in-GcRoot.is)
    (root_goes c.args.caller choice old old c.in-GcRoot.s found.field-0 refl found.ensures)
