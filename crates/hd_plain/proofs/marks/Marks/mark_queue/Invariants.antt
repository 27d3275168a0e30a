use Rattle.std.proofs.Common.{map, ◌≡◌}
use Rattle.std.specs.VecDeque.Iter.{deque_iter_rest}
use Rattle.hd_plain.specs.Inside.{referenced, with_targets, young}
use Rattle.hd_plain.proofs.marks.Marks.mark_queue.Given as goal

abbrev pub invariant-loop-id : goal.invariant-loop-id
invariant-loop-id l =
    with_targets l.self
    (map (young l.sight.n l.sight.objects.now) (referenced (deque_iter_rest l.id-iterator)))
    ≡ with_targets l.initial.self (map (young l.sight.n l.sight.objects.now) (referenced l.queue.items))
