use Rattle.hd_gc.proofs.Basics.{Task, arith, due_again, refl, root_tasks, subst, sum_by_more, take, takes_any, task_kind, visits_of, ◌≡◌}
use Rattle.hd_gc.proofs.HoldTasks.{IsHolding, held_more, all_held}
use Rattle.hd_scan.specs.declared.task.Task.TheVariants as task
use Rattle.hd_gc.proofs.marking.promote_held.Goals as goal

pub promote-requires-clause-visit : goal.promote-requires-clause-visit
promote-requires-clause-visit g c = (due_again c.loop-task.invariant.held.basis refl c.requires.due).visit

pub loop-task-preserved : goal.loop-task-preserved
loop-task-preserved g c =
    let i = c.loop-task.task-index in
    let inv = c.loop-task.invariant in
    record {
      held =
          held_more root_tasks i task.Strong c.loop-task-test.true c.requires.due.visit.generation inv.held
          c.promote.ensures.settled c.promote.ensures.basis
          (c.promote.ensures.whole (due_again inv.held.basis refl c.requires.due).sound);
      steps =
          (let known =
          sum_by_more (λ (t : Task). visits_of c.args.seg.now c.args.context.ages.now
          c.args.context.condemned (task_kind t))
          root_tasks i task.Strong c.loop-task-test.true in
          omega (arith, inv.steps, c.promote.ensures.steps, known));
    }

pub returns-clause-holds : goal.returns-clause-holds
returns-clause-holds g c =
    let all : c.loop-task.task-index ≡ 4 = omega arith in
    all_held
    (subst (λ i. IsHolding (takes_any (take i root_tasks)) c.args.seg.now c.args.marks.now c.loop-task.marks)
    all c.loop-task.invariant.held)
