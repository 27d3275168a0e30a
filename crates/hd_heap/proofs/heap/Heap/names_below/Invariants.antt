use Rattle.hd_heap.proofs.Basics.{None, false, fields_at_heap, get_or, is_below, object_at_heap, ℕ, ◌<◌, ◌≡◌}
use Rattle.hd_heap.proofs.heap.Heap.names_below.Given as goal

abbrev pub invariant-loop-i : goal.invariant-loop-i
invariant-loop-i l = (j : ℕ) → j < l.i
    → is_below l.self (get_or (fields_at_heap (object_at_heap l.self) l.at) j None) l.n ≡ false
