use Rattle.hd_cwt.proofs.Basics.{IsListed, length, vec_capacity, ◌≤◌}
use Rattle.hd_cwt.proofs.KeyChanges.{IsSwept}
use Rattle.hd_cwt.proofs.cwt.Cwt.sweep.Given as goal

abbrev pub invariant-loop-left : goal.invariant-loop-left
invariant-loop-left l =
    IsSwept l.seg l.self-inside.keyed.indexes.items l.left l.fn.self l.self-inside.entries
    × IsListed l.self-inside.entries l.self-inside.count l.self-inside.keyed.slots.items
    l.self-inside.keyed.indexes.items (vec_capacity l.self-inside.keyed.slots)
    × (l.left ≤ length l.self-inside.keyed.slots.items)

abbrev pub decreases-loop-left : goal.decreases-loop-left
decreases-loop-left l = l.left
