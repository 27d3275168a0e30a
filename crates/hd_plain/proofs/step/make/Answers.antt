use Rattle.std.proofs.Common.{IfOk, Option, subst, sym, ℕ}
use Rattle.std.specs.Prelude.{Result}
use Rattle.hd_model.specs.declared.command.Cmd.{Cmd}
use Rattle.hd_model.specs.declared.data.Refusal.{Refusal}
use Rattle.hd_model.specs.Step.{way_of}
use Rattle.hd_plain.specs.declared.choice.Choice.{Choice}
use Rattle.hd_commands.specs.declared.done.Done.{Done}
use Rattle.hd_plain.specs.MachineViews.{MachineView}
use Rattle.hd_plain.specs.ChosenSteps.{WayComesTo}
use Rattle.hd_plain.proofs.step.make.Goals as goal

-- a command comes to a result by its way
abbrev Comes : ℕ → Choice → MachineView → MachineView → Option (Result Done Refusal) → Cmd → Type 0
Comes caller choice old new result c = WayComesTo caller (way_of old.state caller c) choice old new result

pub returns-in-HNew : goal.returns-in-HNew
returns-in-HNew c =
    let comes = Comes c.args.caller c.args.choice.now c.args.machine.now c.make_handle.new.machine in
    subst (λ k. IfOk c.make_handle.result (λ r. comes r k)) (sym c.in-HNew.is) c.make_handle.ensures

pub returns-in-CAdd : goal.returns-in-CAdd
returns-in-CAdd c =
    let comes = Comes c.args.caller c.args.choice.now c.args.machine.now c.add_entry.new.machine in
    subst (λ k. IfOk c.add_entry.result (λ r. comes r k)) (sym c.in-CAdd.is) c.add_entry.ensures

pub returns-in-Trim : goal.returns-in-Trim
returns-in-Trim c =
    let comes = Comes c.args.caller c.args.choice.now c.args.machine.now c.trim.new.machine in
    subst (comes c.trim.result) (sym c.in-Trim.is) (c.trim.ensures c.args.caller)

pub returns-in-AddrOf : goal.returns-in-AddrOf
returns-in-AddrOf c =
    let comes = Comes c.args.caller c.args.choice.now c.args.machine.now c.reply_address.new.machine in
    subst (λ k. IfOk c.reply_address.result (λ r. comes r k)) (sym c.in-AddrOf.is) c.reply_address.ensures
