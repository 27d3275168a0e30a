use Rattle.std.proofs.Common.{ap, ◌++◌, ◌∙◌, ◌≡◌}
use Rattle.std.specs.Prelude.{decimal}
use Rattle.hd_show.specs.Columns.{object_word}
use Rattle.hd_show.specs.Handles.{key_word}
use Rattle.hd_show.proofs.Cells.{cell_more, row_end}
use Rattle.hd_show.proofs.handles.push_entry.Goals as goal

pub returns : goal.returns
returns c =
    let e = c.args.entry in
    let slot : c.push_number.new.self ≡ decimal e.slot.0 =
    c.push_number.ensures.text ∙ ap (λ xs. xs ++ decimal e.slot.0) c.new-line.ensures in
    row_end c.push_end.result c.args.text.now _ _ c.push_end.new.text
    (cell_more 53 (decimal e.age) (cell_more 30 (object_word e.value)
    (cell_more 7 (key_word e.key) slot c.pad.ensures.blanks c.push_key.ensures.word)
    c.pad-2.ensures.blanks c.push_object.ensures.word) c.pad-3.ensures.blanks c.push_number-2.ensures.text)
    c.push_end.ensures
