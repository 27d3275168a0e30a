use Rattle.std.proofs.Common.{subst, sym}
use Rattle.hd_model.specs.declared.data.Entry.{Entry}
use Rattle.hd_plain.specs.OneEntry.{HasOne}
use Rattle.hd_commands.specs.Done.{done_of}
use Rattle.hd_plain.proofs.EntriesByWay.{one_entry}
use Rattle.hd_plain.proofs.machine.Machine.settle.Goals as goal

pub returns : goal.returns
returns c =
    let old = c.args.self.now in
    let found = c.in_ok-settled in
    subst (λ (e : Entry). HasOne old.numbers old.state c.args.caller c.args.cmd e) (sym c.entry_of.ensures)
    (one_entry old.numbers old.state c.args.caller c.args.cmd c.requires.may.caller c.requires.may.valid
    c.settled.new.machine.state (done_of found.field-0)
    (λ choice x. let its = found.ensures choice x in (its.does, its.only)))
