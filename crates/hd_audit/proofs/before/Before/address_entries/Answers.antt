use Rattle.std.proofs.Common.{ap, refl, subst, sym, ◌<◌, ◌∙◌}
use Rattle.std.specs.FinMap.{get}
use Rattle.hd_model.specs.declared.command.Cmd.TheVariants.{AddrOf}
use Rattle.hd_model.specs.declared.data.Entry.{Entry}
use Rattle.hd_commands.specs.Done.{entry_by}
use Rattle.hd_commands.specs.declared.done.Done.{Done}
use Rattle.hd_plain.specs.OneEntry.{HasExactly, HasOne}
use Rattle.hd_audit.specs.Before.{ReturnsFree}
use Rattle.hd_plain.specs.MachineViews.{MachineView}
use Rattle.hd_audit.specs.Known.{Known}
use Rattle.hd_audit.proofs.EntryChoices.{address_again, address_free, address_refused}
use Rattle.hd_audit.proofs.JudgedLines.{well_formed}
use Rattle.hd_audit.proofs.before.Before.address_entries.Goals as goal

pub pinned_in-requires-clause-handles : goal.pinned_in-requires-clause-handles
pinned_in-requires-clause-handles c = (well_formed c.self.invariant.1).handles

pub returns-in-Err : goal.returns-in-Err
returns-in-Err c =
    let j = c.self.inside.judged.machine in
    let cmd = AddrOf c.args.s in
    subst (λ (k : Known). HasOne k.numbers k.state c.args.caller cmd c.entry_of.result) c.self.view_is
    (subst (λ (e : Entry). HasOne j.numbers j.state c.args.caller cmd e) (sym c.entry_of.ensures)
    (address_refused j.numbers j.state c.args.caller cmd
    (subst (λ (k : Known). c.args.caller < k.numbers.callers) (sym c.self.view_is) c.requires.caller)
    c.requires.valid c.args.s refl c.in-Err.refusal (sym c.in-Err.ensures.value)))

pub returns-in-Some : goal.returns-in-Some
returns-in-Some c =
    let j = c.self.inside.judged.machine in
    let cmd = AddrOf c.args.s in
    subst (λ (k : Known). HasOne k.numbers k.state c.args.caller cmd c.entry_of-in-Some.result) c.self.view_is
    (subst (λ (e : Entry). HasOne j.numbers j.state c.args.caller cmd e) (sym (c.entry_of-in-Some.ensures
    ∙ ap (λ (m : Done). entry_by c.args.caller cmd m) c.of-done.ensures))
    (address_again j.numbers j.state c.args.caller cmd
    (subst (λ (k : Known). c.args.caller < k.numbers.callers) (sym c.self.view_is) c.requires.caller)
    c.requires.valid c.args.s refl c.in-Ok.id c.in-Some.own (sym c.in-Ok.ensures.value)
    (sym (c.in-Some.ensures ∙ ap (λ (j : MachineView). get j.state.pinned c.in-Ok.id.0) c.machine.view_is))))

pub returns-in-None : goal.returns-in-None
returns-in-None c =
    let j = c.self.inside.judged.machine in
    let cmd = AddrOf c.args.s in
    subst (λ (k : Known). HasExactly k.numbers k.state c.args.caller cmd (ReturnsFree k.state c.in-Ok.id))
    c.self.view_is
    (address_free j.numbers j.state c.args.caller cmd
    (subst (λ (k : Known). c.args.caller < k.numbers.callers) (sym c.self.view_is) c.requires.caller)
    c.requires.valid c.args.s refl c.in-Ok.id (sym c.in-Ok.ensures.value)
    (sym (c.in-None.ensures ∙ ap (λ (j : MachineView). get j.state.pinned c.in-Ok.id.0) c.machine.view_is)))
