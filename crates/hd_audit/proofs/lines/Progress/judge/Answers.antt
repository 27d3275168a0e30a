use Rattle.std.proofs.Common.{[], arith, refl, subst}
use Rattle.hd_audit.specs.Inside.{TakesLine}
use Rattle.hd_audit.proofs.LinesSoFar.{ends_so, few_lines, few_objects, right_follows, wrong_follows}
use Rattle.hd_audit.proofs.lines.Progress.judge.Goals as goal

pub lines-init : goal.lines-init
lines-init c =
    record { lines = []; along = c.requires; numbers = refl; count_is = refl; cut = refl }

pub take_line-requires-clause-along : goal.take_line-requires-clause-along
take_line-requires-clause-along c = (c.lines.invariant.lines, c.lines.invariant.along)

pub overflow_add-result : goal.overflow_add-result
overflow_add-result c = let low = few_lines c.lines.invariant in omega (arith, low)

pub returns-then-not-branch : goal.returns-then-not-branch
returns-then-not-branch c =
    wrong_follows c.lines.invariant c.cut_line.result.0.now c.cut_line.result.1.now c.cut_line.ensures.lines
    c.take_line.new.self
    (subst (TakesLine c.args.scripts.now c.lines.self c.cut_line.result.0.now c.take_line.new.self)
    c.if-not-branch.true c.in_ok-take_line.ensures)

pub overflow_add-lines : goal.overflow_add-lines
overflow_add-lines c = let low = few_lines c.lines.invariant in omega (arith, low)

pub lines-preserved : goal.lines-preserved
lines-preserved c =
    right_follows c.lines.invariant c.cut_line.result.0.now c.cut_line.result.1.now c.cut_line.ensures.lines
    c.take_line.new.self
    (subst (TakesLine c.args.scripts.now c.lines.self c.cut_line.result.0.now c.take_line.new.self)
    c.if-not-branch.false c.in_ok-take_line.ensures)

pub end-requires-clause-few : goal.end-requires-clause-few
end-requires-clause-few c = let low = few_lines c.lines.invariant in omega (arith, low)

pub end-requires-clause-objects : goal.end-requires-clause-objects
end-requires-clause-objects c = few_objects c.lines.invariant

pub returns : goal.returns
returns c = ends_so c.lines.invariant c.end.result c.end.ensures
