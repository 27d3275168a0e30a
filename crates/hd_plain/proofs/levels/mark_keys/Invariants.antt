use Rattle.std.proofs.Common.{drop, map, ◌≡◌}
use Rattle.hd_plain.specs.Inside.{is_marked, with_targets}
use Rattle.hd_plain.specs.Levels.{attacher_at}
use Rattle.hd_plain.proofs.levels.mark_keys.Given as goal

abbrev pub invariant-loop-slot : goal.invariant-loop-slot
invariant-loop-slot l =
    with_targets l.marks (map (attacher_at (is_marked l.set) l.weak) (drop l.slot-index l.entries))
    ≡ with_targets l.initial.marks (map (attacher_at (is_marked l.set) l.weak) l.entries)
