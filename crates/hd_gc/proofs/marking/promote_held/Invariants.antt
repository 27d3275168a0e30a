use Rattle.hd_gc.proofs.Basics.{root_tasks, take, takes_any, task_visits, ◌+◌, ◌≡◌}
use Rattle.hd_gc.proofs.HoldTasks.{IsHolding}
use Rattle.hd_gc.proofs.marking.promote_held.Given as goal

abbrev pub invariant-loop-task : goal.invariant-loop-task
invariant-loop-task g l = record {
  held : IsHolding (takes_any (take l.task-index root_tasks)) l.seg l.fn.marks l.marks;
  steps : l.steps ≡ l.fn.steps
      + task_visits l.seg l.context.ages.now l.context.condemned (take l.task-index root_tasks);
}
