use Rattle.std.proofs.Common.{sym}
use Rattle.hd_plain.proofs.FreeSlots.{idle_unnamed}
use Rattle.hd_plain.proofs.entries.add_entry.Goals as goal

pub put_entry-requires-clause-free : goal.put_entry-requires-clause-free
put_entry-requires-clause-free c =
    idle_unnamed c.args.machine.now.numbers c.args.machine.now.state c.requires.formed c.in-Some-idle.slot
    (sym c.in-Some-idle.ensures)
