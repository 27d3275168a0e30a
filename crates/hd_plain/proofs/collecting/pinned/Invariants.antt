use Rattle.std.proofs.Common.{drop, map, ◌≡◌}
use Rattle.hd_plain.specs.Inside.{with_targets, no_marks, pinned_at}
use Rattle.hd_plain.proofs.collecting.pinned.Given as goal

abbrev pub invariant-loop-slot : goal.invariant-loop-slot
invariant-loop-slot l =
    with_targets l.marks (map (pinned_at l.table.handles) (drop l.slot-index l.slots))
    ≡ with_targets no_marks (map (pinned_at l.table.handles) l.slots)
