use Rattle.hd_heap.proofs.Basics.{Addr, is_condemned, region_of, true, ◌<◌, ◌≡◌}
use Rattle.hd_heap.proofs.heap.Heap.next_condemned_region.Given as goal

abbrev pub invariant-loop-index : goal.invariant-loop-index
invariant-loop-index l = (a : Addr) → is_condemned l.self l.n a ≡ true → l.fn.after < region_of a
    → l.index < region_of a
