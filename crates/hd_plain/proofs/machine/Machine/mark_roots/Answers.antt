use Rattle.hd_plain.proofs.RootMarks.{roots_marked}
use Rattle.hd_plain.proofs.machine.Machine.mark_roots.Goals as goal

pub mark_registers-requires : goal.mark_registers-requires
mark_registers-requires c = c.requires.formed.objects.generations

pub returns-clause-gains : goal.returns-clause-gains
returns-clause-gains c =
    roots_marked c.args.n c.args.self.now.state c.in_ok-mark_registers.ensures c.in_ok-attached.ensures.gains
    c.in_ok-mark_from_older.ensures
