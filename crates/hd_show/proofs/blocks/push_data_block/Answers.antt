use Rattle.std.proofs.Common.{ap, ◌++◌, ◌∙◌, ◌≡◌}
use Rattle.std.specs.Prelude.{codes}
use Rattle.hd_show.proofs.Cells.{cell_at, number_at, row_end}
use Rattle.hd_show.proofs.blocks.push_data_block.Goals as goal

pub returns : goal.returns
returns c =
    let name : c.push_str.new.self ≡ codes "data" =
    c.push_str.ensures ∙ ap (λ xs. xs ++ codes "data") c.new-line.ensures in
    row_end c.push_end.result c.args.text.now _ _ c.push_end.new.text
    (cell_at 39 (codes "-") (cell_at 33 (codes "-") (cell_at 24 (codes "-") (cell_at 15 (codes "-")
    (number_at 8 name c.push_cell.ensures.cell c.from.ensures) c.push_hyphen.ensures.cell)
    c.push_hyphen-2.ensures.cell) c.push_hyphen-3.ensures.cell) c.push_hyphen-4.ensures.cell)
    c.push_end.ensures
