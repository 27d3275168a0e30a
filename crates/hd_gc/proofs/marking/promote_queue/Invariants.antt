use Rattle.hd_gc.proofs.Basics.{Contains, Promotes, take}
use Rattle.hd_gc.proofs.marking.promote_queue.Given as goal

abbrev pub invariant-loop-i : goal.invariant-loop-i
invariant-loop-i l = Promotes (λ x. Contains (take l.i l.fin.queued) x) l.fn.marks l.marks
