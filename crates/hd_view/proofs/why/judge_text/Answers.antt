use Rattle.hd_audit.specs.RightVerdicts.{numbers_of}
use Rattle.hd_view.proofs.WrongLines.{has_before}
use Rattle.hd_view.proofs.why.judge_text.Goals as goal

pub reason-requires-clause-text : goal.reason-requires-clause-text
reason-requires-clause-text c =
    let n = numbers_of c.args.scripts.now c.limits.inside.heap c.limits.inside.blocks in
    let before = has_before n c.args.scripts.now c.args.text.now c.in-NotRun.line c.in-NotRun.ensures in
    record { blocks = c.limits.invariant.1.1; within = before.within; right = before.right }
