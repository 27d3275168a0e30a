use Rattle.std.proofs.Common.{drop, ◌≡◌, ◌≤◌}
use Rattle.hd_plain.specs.Inside.{pass, swept_one, swept_to, is_seen}
use Rattle.hd_plain.proofs.collecting.sweep.Given as goal

abbrev pub invariant-loop-slot : goal.invariant-loop-slot
invariant-loop-slot l =
    (pass (swept_one (is_seen l.sight l.kept)) (swept_to l.weak l.count) (drop l.slot-index l.slots)
    ≡ pass (swept_one (is_seen l.sight l.kept)) (swept_to l.initial.weak 0) l.slots)
    × (l.count ≤ l.slot-index)
