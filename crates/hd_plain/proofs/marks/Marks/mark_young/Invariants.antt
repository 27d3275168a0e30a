use Rattle.std.proofs.Common.{drop, map, ◌≡◌}
use Rattle.hd_plain.specs.Inside.{with_targets, young}
use Rattle.hd_plain.proofs.marks.Marks.mark_young.Given as goal

abbrev pub invariant-loop-target : goal.invariant-loop-target
invariant-loop-target l =
    with_targets l.self (map (young l.sight.n l.sight.objects.now) (drop l.target-index l.targets))
    ≡ with_targets l.initial.self (map (young l.sight.n l.sight.objects.now) l.targets)
