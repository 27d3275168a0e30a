use Rattle.std.proofs.Common.{ap, ◌++◌, ◌∙◌}
use Rattle.hd_model.specs.Text.{newline}
use Rattle.hd_show.specs.{Blocks.counts_line, Blocks.free_rows, Inside.rows_by}
use Rattle.hd_show.specs.Ranges.{ranges_of, ranges_word}
use Rattle.hd_show.proofs.Cells.{joined, joined_last}
use Rattle.hd_show.proofs.blocks.push_kind_block.Goals as goal

pub returns : goal.returns
returns c =
    let counts = rows_by c.args.rows.now in
    let line = counts_line counts c.args.kind c.args.number in
    let free = ranges_word (ranges_of (free_rows counts c.args.number)) in
    joined_last c.push.result c.args.text.now (line ++ free) newline c.push_free.new.text c.push.new.self
    (joined c.args.text.now line free c.push_line.new.self c.push_free.new.text
    (c.in_ok-push_line.ensures ∙ ap (λ xs. c.args.text.now ++ xs) c.counts_line.ensures)
    c.in_ok-push_free.ensures)
    c.push.ensures
