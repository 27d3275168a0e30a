use Rattle.hd_plan.proofs.Basics.{card_of}
use Rattle.hd_plan.proofs.CommitCards.{AreUnneeding, left_from}
use Rattle.hd_plan.proofs.carding.is_needed.Given as goal

abbrev pub invariant-loop-next : goal.invariant-loop-next
invariant-loop-next l = AreUnneeding l.heap (card_of l.fn.first) l.next

abbrev pub decreases-loop-next : goal.decreases-loop-next
decreases-loop-next l = left_from l.next
