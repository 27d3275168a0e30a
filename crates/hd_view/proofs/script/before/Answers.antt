use Rattle.std.proofs.Common.{arith, length, sym, ◌∙◌}
use Rattle.std.proofs.lemmas.Bool.{eqb-true}
use Rattle.hd_view.proofs.LinesBefore.{all_passed, none_left, none_passed, one_passed, rest_shorter}
use Rattle.hd_view.proofs.script.before.Goals as goal

pub lines-init : goal.lines-init
lines-init c = none_passed c.args.bytes.now c.args.line

pub lines-preserved : goal.lines-preserved
lines-preserved c =
    one_passed c.lines.invariant c.cut_line.result.0.now c.cut_line.result.1.now c.cut_line.ensures.lines
    (omega arith)

pub slice_bounds-result-count : goal.slice_bounds-result-count
slice_bounds-result-count c = rest_shorter c.lines.invariant

pub returns-clause-value : goal.returns-clause-value
returns-clause-value c = all_passed c.lines.invariant (omega arith)

pub returns-then-is_empty-clause-value : goal.returns-then-is_empty-clause-value
returns-then-is_empty-clause-value c =
    none_left c.lines.invariant
    (eqb-true (length c.lines.rest.now) 0 (sym c.is_empty.ensures ∙ c.if-is_empty.true))
