use Rattle.std.proofs.Common.{drop, map, ◌≡◌}
use Rattle.hd_plain.specs.Inside.{is_marked, with_targets}
use Rattle.hd_plain.specs.Levels.{among}
use Rattle.hd_plain.proofs.levels.mark_statics.Given as goal

abbrev pub invariant-loop-target : goal.invariant-loop-target
invariant-loop-target l =
    with_targets l.marks (map (among (is_marked l.set)) (drop l.target-index l.statics))
    ≡ with_targets l.initial.marks (map (among (is_marked l.set)) l.statics)
