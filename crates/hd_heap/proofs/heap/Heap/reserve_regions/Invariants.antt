use Rattle.hd_heap.proofs.Basics.{length, ◌-◌}
use Rattle.hd_heap.proofs.RegionReserve.{IsLonger}
use Rattle.hd_heap.proofs.heap.Heap.reserve_regions.Given as goal

abbrev pub invariant-loop-self : goal.invariant-loop-self
invariant-loop-self l = IsLonger l.initial.self l.self l.count

abbrev pub decreases-loop-self : goal.decreases-loop-self
decreases-loop-self l = l.count - length l.self.free
