use Rattle.hd_final.proofs.Basics.{deque_capacity, vec_capacity, ◌≡◌}
use Rattle.hd_final.proofs.QueueRelocate.{IsPartMoved}
use Rattle.hd_final.proofs.queue.Final.relocate.Given as goal

abbrev pub invariant-loop-i : goal.invariant-loop-i
invariant-loop-i g l =
    (IsPartMoved (g.F.Forward.forwarding l.forward) l.initial.self-inside.queued.items l.i
    l.self-inside.queued.items)
    × (deque_capacity l.self-inside.queued ≡ deque_capacity l.initial.self-inside.queued)
    × (l.self-inside.room ≡ l.initial.self-inside.room)
    × (vec_capacity l.self-inside.joiners ≡ vec_capacity l.initial.self-inside.joiners)
