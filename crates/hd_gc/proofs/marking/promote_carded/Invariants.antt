use Rattle.hd_gc.proofs.Basics.{Promotes}
use Rattle.hd_gc.proofs.CardWalk.{IsOldFieldUpTo, left_to}
use Rattle.hd_gc.proofs.marking.promote_carded.Given as goal

abbrev pub invariant-loop-at : goal.invariant-loop-at
invariant-loop-at l = Promotes (IsOldFieldUpTo l.heap l.n l.after) l.fn.marks l.marks

abbrev pub decreases-loop-at : goal.decreases-loop-at
decreases-loop-at l = left_to l.after
