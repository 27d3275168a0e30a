use Rattle.std.proofs.Common.{drop, map, ◌≡◌}
use Rattle.hd_plain.specs.Inside.{edges_from, with_rows}
use Rattle.hd_plain.proofs.collecting.mark_from_all.Given as goal

abbrev pub invariant-loop-entry : goal.invariant-loop-entry
invariant-loop-entry l =
    with_rows l.marks
    (map (edges_from l.sight.n l.sight.objects.now l.attached) (drop l.entry-index l.entries))
    ≡ with_rows l.initial.marks (map (edges_from l.sight.n l.sight.objects.now l.attached) l.entries)
