use Rattle.std.proofs.Common.{ap, ◌++◌, ◌∙◌, ◌≡◌}
use Rattle.std.specs.Prelude.{decimal}
use Rattle.hd_show.proofs.Cells.{number_at, row_end}
use Rattle.hd_show.proofs.heaps.push_region.Goals as goal

pub returns : goal.returns
returns c =
    let number : c.push_number.new.self ≡ decimal c.args.region.number =
    c.push_number.ensures.text ∙ ap (λ xs. xs ++ decimal c.args.region.number) c.new-line.ensures in
    row_end c.push_end.result c.args.text.now _ _ c.push_end.new.text
    (number_at 55 (number_at 47 (number_at 38 (number_at 31 (number_at 22
    (number_at 10 number c.push_cell.ensures.cell c.from.ensures)
    c.push_cell-2.ensures.cell c.objects.ensures) c.push_cell-3.ensures.cell c.cells.ensures)
    c.push_cell-4.ensures.cell c.from-2.ensures) c.push_cell-5.ensures.cell c.pinned.ensures)
    c.push_cell-6.ensures.cell c.from-3.ensures)
    c.push_end.ensures
