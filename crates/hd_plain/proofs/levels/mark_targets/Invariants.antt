use Rattle.std.proofs.Common.{drop, map, ◌≡◌}
use Rattle.hd_plain.specs.Inside.{is_marked, with_targets}
use Rattle.hd_plain.specs.Levels.{attacher_in}
use Rattle.hd_plain.proofs.levels.mark_targets.Given as goal

abbrev pub invariant-loop-handle : goal.invariant-loop-handle
invariant-loop-handle l =
    with_targets l.marks (map (attacher_in (is_marked l.set)) (drop l.handle-index l.handles))
    ≡ with_targets l.initial.marks (map (attacher_in (is_marked l.set)) l.handles)
