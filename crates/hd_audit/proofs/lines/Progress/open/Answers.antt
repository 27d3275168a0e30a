use Rattle.hd_audit.proofs.JudgedLines.{judged_open}
use Rattle.hd_audit.proofs.lines.Progress.open.Goals as goal

pub returns-clause-none : goal.returns-clause-none
returns-clause-none c =
    judged_open c.in_ok-machine.machine.numbers c.args.scripts.now c.args.heap c.args.blocks
    c.callers-callers.result c.in_ok-machine.ensures.numbers c.callers-callers.ensures.value
    c.callers-callers.ensures.lists c.requires
    c.in_ok-machine.machine.state c.in_ok-machine.ensures.state c.in_ok-done.done.items c.in_ok-done.ensures
    c.total-left.result c.total-left.ensures.value
