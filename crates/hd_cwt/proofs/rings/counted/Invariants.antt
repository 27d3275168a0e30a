use Rattle.hd_cwt.proofs.Basics.{length, node_at, vec_capacity, ℕ, ◌<◌, ◌≡◌, ◌≤◌}
use Rattle.hd_cwt.proofs.rings.counted.Given as goal

abbrev pub invariant-loop-x : goal.invariant-loop-x
invariant-loop-x l =
    (length l.nodes.items ≡ l.x) × ((y : ℕ) → y < l.x → node_at l.nodes.items y ≡ y)
    × (l.count ≤ vec_capacity l.nodes)
