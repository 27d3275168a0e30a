use Rattle.std.proofs.Common.{◌++◌, ◌≡◌}
use Rattle.hd_model.specs.declared.limits.TheConstants.{ROWS}
use Rattle.hd_show.specs.{Blocks.free_rows, Blocks.is_free_row, Inside.rows_by}
use Rattle.hd_show.specs.{Inside.left_word, Ranges.ranges_of, Ranges.ranges_word}
use Rattle.hd_show.proofs.RangeSteps.{passing}
use Rattle.hd_show.proofs.ranges.push_free.Given as goal

abbrev pub invariant-loop-row : goal.invariant-loop-row
invariant-loop-row l =
    l.text ++ left_word l.before (passing (is_free_row (rows_by l.rows) l.block) ROWS l.row)
    ≡ l.fn.text ++ ranges_word (ranges_of (free_rows (rows_by l.rows) l.block))
