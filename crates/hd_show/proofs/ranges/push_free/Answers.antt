use Rattle.std.proofs.Common.{List, ◌++◌, ◌≡◌, subst, ℕ}
use Rattle.std.specs.Prelude.{IfOk}
use Rattle.hd_model.specs.declared.limits.TheConstants.{ROWS}
use Rattle.hd_show.specs.{Blocks.free_rows, Blocks.is_free_row, Inside.rows_by}
use Rattle.hd_show.specs.Ranges.{ranges_of, ranges_word}
use Rattle.hd_show.proofs.RangeSteps.{none_left, row_step}
use Rattle.hd_show.proofs.ranges.push_free.Goals as goal

pub loop-row-preserved : goal.loop-row-preserved
loop-row-preserved c =
    let counts = rows_by c.args.rows.now in
    row_step (is_free_row counts c.args.block) ROWS c.loop-row.row c.loop-row-test.true
    (c.args.text.now ++ ranges_word (ranges_of (free_rows counts c.args.block))) c.loop-row.text
    c.push_row.new.text c.loop-row.before c.in_ok-before.before c.loop-row.invariant c.in_ok-before.ensures

pub returns : goal.returns
returns c =
    let counts = rows_by c.args.rows.now in
    subst (λ (xs : List ℕ). IfOk c.push_last.result (λ _. c.push_last.new.text ≡ xs))
    (none_left (is_free_row counts c.args.block) ROWS c.loop-row.row c.loop-row-test.false
    (c.args.text.now ++ ranges_word (ranges_of (free_rows counts c.args.block))) c.loop-row.text
    c.loop-row.before c.loop-row.invariant)
    c.push_last.ensures
