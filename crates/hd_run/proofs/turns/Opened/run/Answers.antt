use Rattle.hd_run.proofs.RunEndings.{ending_keeps, turns_cause}
use Rattle.hd_run.specs.declared.ending.Ran.TheVariants as ran
use Rattle.hd_run.proofs.turns.Opened.run.Goals as goal

pub returns-clause-kept : goal.returns-clause-kept
returns-clause-kept c = rw c.of.ensures (ending_keeps c.is_ok-done.result (ran.Alone c.finish.result))

pub returns-clause-cause : goal.returns-clause-cause
returns-clause-cause c =
    rw (c.of.ensures, c.is_ok-done.ensures.value, c.finish.ensures)
    (turns_cause c.args.scripts.now _ c.take_turns.new.alone c.take_turns.result
    c.take_turns.ensures.done c.take_turns.ensures.stopped)
