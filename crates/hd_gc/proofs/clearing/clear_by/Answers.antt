use Rattle.hd_gc.proofs.Basics.{Clears, arith, subst, take_all, takes_any}
use Rattle.hd_gc.proofs.{ClearedRows.cleared_due, ClearedRows.still_tracing, ClearedRows.task_more, ClearTasks.cleared_more}
use Rattle.hd_scan.specs.declared.task.Task.TheVariants as task
use Rattle.hd_gc.proofs.clearing.clear_by.Goals as goal

pub clear-cleared-requires-clause-visit : goal.clear-cleared-requires-clause-visit
clear-cleared-requires-clause-visit g c =
    (cleared_due c.loop-task.invariant.clears c.requires.tracing.due).visit

pub loop-task-preserved : goal.loop-task-preserved
loop-task-preserved g c =
    let tasks = c.args.tasks.now in
    let i = c.loop-task.task-index in
    let inv = c.loop-task.invariant in
    record {
      clears =
          cleared_more tasks i task.Strong c.loop-task-test.true inv.clears c.clear-cleared.ensures.passed
          (c.clear-cleared.ensures.whole (cleared_due inv.clears c.requires.tracing.due).sound);
      few = omega (arith, inv.few, c.clear-cleared.ensures.few);
      steps =
          (let known =
          task_more c.args.seg.now c.loop-task.seg c.args.context.ages.now c.args.context.condemned tasks i
          task.Strong c.loop-task-test.true inv.clears.table in
          omega (arith, inv.steps, c.clear-cleared.ensures.steps, known));
    }

pub returns-clause-clears : goal.returns-clause-clears
returns-clause-clears g c =
    subst (λ ts. Clears (takes_any ts) c.args.seg.now c.loop-task.seg c.args.marks.now c.loop-task.cleared)
    (take_all c.loop-task.task-index c.args.tasks.now (omega arith)) c.loop-task.invariant.clears

pub returns-clause-tracing : goal.returns-clause-tracing
returns-clause-tracing g c = still_tracing c.loop-task.invariant.clears c.requires.tracing
