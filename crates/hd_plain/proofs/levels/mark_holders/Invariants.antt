use Rattle.std.proofs.Common.{drop, map, ◌≡◌}
use Rattle.hd_plain.specs.Inside.{is_marked, with_targets}
use Rattle.hd_plain.specs.Levels.{holder_in}
use Rattle.hd_plain.proofs.levels.mark_holders.Given as goal

abbrev pub invariant-loop-entry : goal.invariant-loop-entry
invariant-loop-entry l =
    with_targets l.marks (map (holder_in (is_marked l.set)) (drop l.entry-index l.objects))
    ≡ with_targets l.initial.marks (map (holder_in (is_marked l.set)) l.objects)
