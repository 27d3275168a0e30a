use Rattle.hd_heap.proofs.Basics.{LEFT, is_in_use, region_at, region_generation, true, ℕ, ◌≡◌, ◌≤◌}
use Rattle.hd_heap.proofs.heap.Heap.first_open.Given as goal

abbrev pub invariant-loop-index : goal.invariant-loop-index
invariant-loop-index l = (r : ℕ) → is_in_use l.self r ≡ true → region_generation l.self r ≡ 0 → r ≤ l.index
    → LEFT ≤ (region_at l.self r).fill
