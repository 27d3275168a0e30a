use Rattle.std.proofs.Common.{List, arith, length, subst, sym, ◌≤◌}
use Rattle.hd_view.specs.Inside.{AreDueTo}
use Rattle.hd_view.specs.declared.accepted.Due.{Due}
use Rattle.hd_view.proofs.DueCommands.{due_all, due_none}
use Rattle.hd_view.proofs.accepted.all_due.Goals as goal

pub loop-caller-init : goal.loop-caller-init
loop-caller-init c = (
  subst (λ (l : List Due). AreDueTo c.args.before.now 0 l) (sym c.new-dues.ensures.items)
      (due_none c.args.before.now),
  c.callers-caller-end.ensures.value,
  c.callers-caller-end.ensures.lists,
)

pub loop-caller-preserved : goal.loop-caller-preserved
loop-caller-preserved c = (
  c.in_ok-add_due.ensures,
  c.loop-caller.invariant.1,
  c.loop-caller.invariant.2,
)

pub returns-clause-due : goal.returns-clause-due
returns-clause-due c =
    let all : length c.args.before.now.lists ≤ c.loop-caller.caller = omega arith in
    due_all c.args.before.now c.loop-caller.dues.items c.loop-caller.caller all c.loop-caller.invariant.0

pub returns-clause-valid : goal.returns-clause-valid
returns-clause-valid c = c.loop-caller.invariant.0.valid
