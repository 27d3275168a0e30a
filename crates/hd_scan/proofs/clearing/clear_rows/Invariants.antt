use Rattle.hd_scan.proofs.Basics.{length, slots_to_come}
use Rattle.hd_scan.proofs.HandleClear.{IsSweeping}
use Rattle.hd_scan.proofs.clearing.clear_rows.Given as goal

abbrev pub invariant-loop-slot : goal.invariant-loop-slot
invariant-loop-slot g l =
    IsSweeping l.initial.seg l.ages l.n l.task (g.M.Marker.promoted l.marker) l.seg l.rows l.initial.steps
    l.steps l.cleared

abbrev pub decreases-loop-slot : goal.decreases-loop-slot
decreases-loop-slot g l = length (slots_to_come l.seg l.ages l.rows)
