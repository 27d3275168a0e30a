use Rattle.hd_heap.proofs.WantedObjects.{IsSearch, left}
use Rattle.hd_heap.proofs.area.Area.wanted_from.Given as goal

abbrev pub invariant-loop-next : goal.invariant-loop-next
invariant-loop-next l = IsSearch l.self l.wanted l.fn.first l.next

abbrev pub decreases-loop-next : goal.decreases-loop-next
decreases-loop-next l = left l.next
