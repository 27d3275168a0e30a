use Rattle.std.proofs.Common.{ap, ◌++◌, ◌∙◌, ◌≡◌}
use Rattle.hd_show.specs.Heaps.{name_of}
use Rattle.hd_show.specs.declared.heaps.Sums.{Sums}
use Rattle.hd_show.proofs.Cells.{number_at, row_end}
use Rattle.hd_show.proofs.heaps.push_generation.Goals as goal

pub returns : goal.returns
returns c =
    let name : c.push_name.new.line ≡ name_of c.args.generation =
    c.push_name.ensures.word ∙ ap (λ xs. xs ++ name_of c.args.generation) c.new-line.ensures in
    let sums = c.in_ok-all.ensures in
    row_end c.push_end.result c.args.text.now _ _ c.push_end.new.text
    (number_at 47 (number_at 39 (number_at 30 (number_at 21 (number_at 12 name
    c.push_cell.ensures.cell (ap (λ (s : Sums). s.objects) sums))
    c.push_cell-2.ensures.cell (ap (λ (s : Sums). s.cells) sums))
    c.push_cell-3.ensures.cell (ap (λ (s : Sums). s.regions) sums))
    c.push_cell-4.ensures.cell (ap (λ (s : Sums). s.pinned) sums))
    c.push_cell-5.ensures.cell (ap (λ (s : Sums). s.cards) sums))
    c.push_end.ensures
