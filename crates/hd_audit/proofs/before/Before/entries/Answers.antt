use Rattle.std.proofs.Common.{ap, subst, sym}
use Rattle.hd_model.specs.declared.command.Cmd.{Cmd}
use Rattle.hd_model.specs.Step.{way_of}
use Rattle.hd_plain.specs.OneEntry.{HasExactly}
use Rattle.hd_audit.specs.Before.{MayHave, TakesSlot}
use Rattle.hd_audit.proofs.EntryChoices.{block_of_trim, slot_of_handle}
use Rattle.hd_audit.proofs.before.Before.entries.Goals as goal

pub returns-in-HNew : goal.returns-in-HNew
returns-in-HNew c =
    let k = c.args.self.now in
    subst (λ kind. HasExactly k.numbers k.state c.args.caller c.args.cmd (TakesSlot k.numbers k.state kind))
    (sym c.kind.ensures)
    (slot_of_handle k.numbers k.state c.args.caller c.args.cmd c.requires.caller c.requires.valid _
    c.in-HNew.make _ (ap (way_of k.state c.args.caller) c.in-HNew.is))

pub returns-in-Trim : goal.returns-in-Trim
returns-in-Trim c =
    let k = c.args.self.now in
    block_of_trim k.numbers k.state c.args.caller c.args.cmd c.requires.caller c.requires.valid
    c.in-Trim.kind (ap (way_of k.state c.args.caller) c.in-Trim.is)

pub returns-in-CAdd : goal.returns-in-CAdd
returns-in-CAdd c =
    let k = c.args.self.now in
    subst (λ (x : Cmd). MayHave k.numbers k.state c.args.caller x c.adding_entries.result) (sym c.in-CAdd.is)
    c.adding_entries.ensures

pub returns-in-AddrOf : goal.returns-in-AddrOf
returns-in-AddrOf c =
    let k = c.args.self.now in
    subst (λ (x : Cmd). MayHave k.numbers k.state c.args.caller x c.address_entries.result)
    (sym c.in-AddrOf.is)
    c.address_entries.ensures
