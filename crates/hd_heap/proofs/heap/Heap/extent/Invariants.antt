use Rattle.hd_heap.proofs.Basics.{◌+◌}
use Rattle.hd_heap.proofs.CondemnedSums.{IsExtentBelow}
use Rattle.hd_heap.proofs.heap.Heap.extent.Given as goal

abbrev pub invariant-loop-index : goal.invariant-loop-index
invariant-loop-index l = IsExtentBelow l.self l.n (l.index + 1) l.extent
