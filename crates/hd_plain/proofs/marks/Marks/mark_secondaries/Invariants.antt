use Rattle.std.proofs.Common.{drop, map, ◌≡◌}
use Rattle.hd_plain.specs.Inside.{with_targets, young_at}
use Rattle.hd_plain.proofs.marks.Marks.mark_secondaries.Given as goal

abbrev pub invariant-loop-secondary : goal.invariant-loop-secondary
invariant-loop-secondary l =
    with_targets l.self
    (map (young_at l.sight.n l.sight.objects.now) (drop l.secondary-index l.secondary-items))
    ≡ with_targets l.initial.self (map (young_at l.sight.n l.sight.objects.now) l.secondary-items)
