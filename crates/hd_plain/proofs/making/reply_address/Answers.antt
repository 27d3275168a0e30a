use Rattle.std.proofs.Common.{ap, subst, sym, ◌∙◌}
use Rattle.hd_model.specs.declared.command.Cmd.{Cmd}
use Rattle.hd_model.specs.Step.{replies_address}
use Rattle.hd_commands.specs.declared.done.Done.{Done}
use Rattle.std.specs.FinMap.{get}
use Rattle.hd_plain.specs.ChosenSteps.{GoesBy}
use Rattle.hd_plain.specs.MachineViews.{MachineView}
use Rattle.hd_plain.proofs.AddressWays.{addr_refused, addr_again, addr_given}
use Rattle.hd_plain.proofs.making.reply_address.Goals as goal

pub returns-in-Err : goal.returns-in-Err
returns-in-Err c =
    addr_refused c.args.caller c.args.h c.args.choice.now c.args.machine.now c.in-Err.refusal
    (sym c.in-Err.ensures.value)

pub returns-in-Some : goal.returns-in-Some
returns-in-Some c =
    subst
    (λ (m : Done). (k : Cmd) → GoesBy c.args.caller k (replies_address c.args.h) c.args.choice.now
    c.args.machine.now c.args.machine.now m)
    (sym c.of-in-Some.ensures)
    (addr_again c.args.caller c.args.h c.args.choice.now c.args.machine.now c.in-Ok.id c.in-Some.own
    (sym c.in-Ok.ensures.value)
    (sym (c.in-Some.ensures ∙ ap (λ (j : MachineView). get j.state.pinned c.in-Ok.id.0) c.machine.view_is)))

pub returns : goal.returns
returns c =
    subst
    (λ (m : Done). (k : Cmd) → GoesBy c.args.caller k (replies_address c.args.h) c.args.choice.now
    c.args.machine.now c.put_address.new.self m)
    (sym c.of-2.ensures)
    (addr_given c.args.caller c.args.h c.args.choice.now c.args.machine.now c.put_address.new.self c.in-Ok.id
    (sym c.in-Ok.ensures.value)
    (ap (λ (j : MachineView). get j.state.pinned c.in-Ok.id.0) (sym c.machine.view_is) ∙ sym c.of.ensures
    ∙ c.in_default.is)
    (c.is_free_address.ensures.0 c.if-not-is_free_address.false) c.in_ok-put_address.ensures)
