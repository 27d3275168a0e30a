use Rattle.std.proofs.Common.{List, ap, count_by, filter, sum_by, ◌++◌, ◌∙◌, ◌≡◌}
use Rattle.hd_seen.specs.declared.SeenBlock.{SeenBlock}
use Rattle.hd_seen.specs.declared.SeenHandle.{SeenHandle}
use Rattle.hd_show.specs.{Blocks.free_in, Inside.rows_by}
use Rattle.hd_show.specs.Kinds.{block_is, handle_is, name_of}
use Rattle.hd_show.proofs.Cells.{number_at, row_end}
use Rattle.hd_show.proofs.kinds.push_kind.Goals as goal

pub returns : goal.returns
returns c =
    let name : c.push_name.new.line ≡ name_of c.args.kind =
    c.push_name.ensures.word ∙ ap (λ xs. xs ++ name_of c.args.kind) c.new-line.ensures in
    row_end c.push_end.result c.args.text.now _ _ c.push_end.new.text
    (number_at 25 (number_at 17 (number_at 8 name c.push_cell.ensures.cell
    (c.count_handles.ensures
    ∙ ap (λ (hs : List SeenHandle). count_by (handle_is c.args.kind) hs) c.deref-2.ensures.value))
    c.push_cell-2.ensures.cell
    (c.count_blocks.ensures
    ∙ ap (λ (bs : List SeenBlock). count_by (block_is c.args.kind) bs) c.deref-3.ensures.value))
    c.push_cell-3.ensures.cell
    (c.in_ok-free.ensures
    ∙ ap (λ (bs : List SeenBlock). sum_by (λ (b : SeenBlock). free_in (rows_by c.args.rows.now) b.number)
    (filter (block_is c.args.kind) bs)) c.deref.ensures.value))
    c.push_end.ensures
