use Rattle.hd_mark.proofs.{MarkDrain.IsDraining, MarkPush.work}
use Rattle.hd_mark.proofs.marks.Marks.drain.Given as goal

abbrev pub invariant-loop-at : goal.invariant-loop-at
invariant-loop-at l = IsDraining l.fn.self l.self

abbrev pub decreases-loop-at : goal.decreases-loop-at
decreases-loop-at l = work l.self.basis.heap l.self.marks l.self.unscanned
