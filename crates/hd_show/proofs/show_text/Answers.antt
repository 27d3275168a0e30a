use Rattle.std.proofs.Common.{[], ap, ◌++◌, ◌∙◌}
use Rattle.hd_seen.specs.Seen.{Picture, view_seen}
use Rattle.hd_show.specs.Show.{heap_text, rest_text, table_text}
use Rattle.hd_show.proofs.Cells.{joined}
use Rattle.hd_show.proofs.show_text.Goals as goal

pub returns : goal.returns
returns c =
    let p : Picture = view_seen c.args.seen.now in
    c.into_bytes.ensures
    ∙ joined [] (table_text p ++ heap_text p) (rest_text p) c.push_heap.new.text c.push_rest.new.text
    (joined [] (table_text p) (heap_text p) c.push_table.new.text c.push_heap.new.text
    (c.in_ok-push_table.ensures ∙ ap (λ xs. xs ++ table_text p) c.open-text.ensures)
    c.in_ok-push_heap.ensures) c.in_ok-push_rest.ensures
