use Rattle.hd_heap.proofs.Basics.{Addr, REGION, is_wanted, true, ◌*◌, ◌+◌, ◌≡◌, ◌≤◌}
use Rattle.hd_heap.proofs.heap.Heap.first_from.Given as goal

abbrev pub invariant-loop-index : goal.invariant-loop-index
invariant-loop-index l = (b : Addr) → is_wanted l.self l.wanted b ≡ true → (l.fn.first + 1) * REGION ≤ b.0
    → (l.index + 1) * REGION ≤ b.0
