use Rattle.hd_scan.proofs.Basics.{length, slots_to_come}
use Rattle.hd_scan.proofs.HandleRelocate.{IsRelocating}
use Rattle.hd_scan.proofs.relocation.relocate_rows.Given as goal

abbrev pub invariant-loop-slot : goal.invariant-loop-slot
invariant-loop-slot g l =
    IsRelocating l.initial.seg l.ages l.n l.fn.kind (g.F.Forward.forwarding l.forward) l.seg l.rows
    l.initial.steps
    l.steps

abbrev pub decreases-loop-slot : goal.decreases-loop-slot
decreases-loop-slot g l = length (slots_to_come l.seg l.ages l.rows)
