use Rattle.std.proofs.Common.{arith, length, subst, sym, ◌≤◌}
use Rattle.std.specs.Prelude.{◌≢◌}
use Rattle.hd_view.specs.declared.accepted.Due.{Due}
use Rattle.hd_view.proofs.DueCommands.{other_all, other_next}
use Rattle.hd_view.proofs.cause.find_due.Goals as goal

pub returns-then-due-caller-clause-some : goal.returns-then-due-caller-clause-some
returns-then-due-caller-clause-some c =
    ((c.loop-due.due-index, c.loop-due-test.true, sym c.due-item.is), c.if-due-caller.true)

pub loop-due-preserved : goal.loop-due-preserved
loop-due-preserved c =
    other_next c.args.dues.now c.loop-due.due-index c.due-item.result c.args.caller c.loop-due-test.true
    c.loop-due.invariant
    (subst (λ (x : Due). x.caller ≢ c.args.caller) c.due-item.is c.if-due-caller.false)

pub returns-clause-none : goal.returns-clause-none
returns-clause-none c =
    let end : length c.args.dues.now ≤ c.loop-due.due-index = omega arith in
    other_all c.args.dues.now c.loop-due.due-index c.args.caller end c.loop-due.invariant
