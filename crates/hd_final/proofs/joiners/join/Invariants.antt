use Rattle.hd_final.proofs.Basics.{Contains, Grows, IsYoungField, deque_capacity, objects_of, addresses, take, ◌++◌, ◌≡◌}
use Rattle.hd_final.proofs.joiners.join.Given as goal

abbrev pub invariant-loop-joiner : goal.invariant-loop-joiner
invariant-loop-joiner g l =
    let basis = g.M.Marker.basis in
    let promoted = g.M.Marker.promoted in
    let done = addresses (take l.joiner-index l.joiners) in
    (g.M.Marker.settled l.marker) × (basis l.marker ≡ basis l.initial.marker)
    × (g.M.Marker.pinned l.marker ≡ g.M.Marker.pinned l.initial.marker)
    × (Grows (IsYoungField (objects_of (basis l.initial.marker)) (basis l.initial.marker).condemned)
    (λ a. Contains done a) (promoted l.initial.marker) (promoted l.marker))
    × (l.queued.items ≡ l.initial.queued.items ++ done)
    × (deque_capacity l.queued ≡ deque_capacity l.initial.queued)
