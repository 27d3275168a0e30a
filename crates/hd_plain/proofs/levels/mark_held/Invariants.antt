use Rattle.std.proofs.Common.{drop, map, ◌≡◌}
use Rattle.hd_plain.specs.Inside.{is_marked, with_targets}
use Rattle.hd_plain.specs.Levels.{held_among}
use Rattle.hd_plain.proofs.levels.mark_held.Given as goal

abbrev pub invariant-loop-handle : goal.invariant-loop-handle
invariant-loop-handle l =
    with_targets l.marks (map (held_among (is_marked l.set)) (drop l.handle-index l.handles))
    ≡ with_targets l.initial.marks (map (held_among (is_marked l.set)) l.handles)
