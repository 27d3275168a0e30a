use Rattle.hd_gc.proofs.Basics.{HOST_BLOCKS, Clears, ROWS, take, takes_any, task_visits, ◌*◌, ◌+◌, ◌≡◌, ◌≤◌}
use Rattle.hd_gc.proofs.clearing.clear_by.Given as goal

abbrev pub invariant-loop-task : goal.invariant-loop-task
invariant-loop-task g l = record {
  clears : Clears (takes_any (take l.task-index l.tasks)) l.fn.seg l.seg l.marks l.cleared;
  few : l.cleared ≤ HOST_BLOCKS * ROWS * l.task-index;
  steps : l.steps ≡ l.fn.steps
      + task_visits l.fn.seg l.context.ages.now l.context.condemned (take l.task-index l.tasks);
}
