use Rattle.std.proofs.Common.{map, ◌≡◌}
use Rattle.std.specs.VecDeque.Iter.{deque_iter_rest}
use Rattle.hd_plain.specs.Inside.{is_marked, referenced, with_targets}
use Rattle.hd_plain.specs.Levels.{among}
use Rattle.hd_plain.proofs.levels.mark_queued.Given as goal

abbrev pub invariant-loop-id : goal.invariant-loop-id
invariant-loop-id l =
    with_targets l.marks (map (among (is_marked l.set)) (referenced (deque_iter_rest l.id-iterator)))
    ≡ with_targets l.initial.marks (map (among (is_marked l.set)) (referenced l.queue.items))
