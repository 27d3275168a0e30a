use Rattle.std.proofs.Common.{ap, ◌++◌, ◌∙◌, ◌≡◌}
use Rattle.std.specs.Prelude.{decimal}
use Rattle.hd_model.specs.CommandText.{kind_name}
use Rattle.hd_show.specs.Columns.{object_word}
use Rattle.hd_show.specs.Handles.{extra_word}
use Rattle.hd_show.proofs.Cells.{cell_more, row_end}
use Rattle.hd_show.proofs.handles.push_handle.Goals as goal

pub returns : goal.returns
returns c =
    let h = c.args.handle in
    let slot : c.push_number.new.self ≡ decimal h.slot.0 =
    c.push_number.ensures.text ∙ ap (λ xs. xs ++ decimal h.slot.0) c.new-line.ensures in
    let kind : c.push_str.new.self ≡ c.pad.new.line ++ kind_name h.kind =
    c.push_str.ensures ∙ ap (λ xs. c.pad.new.line ++ xs) c.kind_name.ensures.word in
    row_end c.push_end.result c.args.text.now _ _ c.push_end.new.text
    (cell_more 59 (decimal h.age) (cell_more 37 (extra_word h.extra) (cell_more 15 (object_word h.target)
    (cell_more 7 (kind_name h.kind) slot c.pad.ensures.blanks kind)
    c.pad-2.ensures.blanks c.push_object.ensures.word) c.pad-3.ensures.blanks c.push_extra.ensures.word)
    c.pad-4.ensures.blanks c.push_number-2.ensures.text) c.push_end.ensures
