use Rattle.hd_dep.proofs.Basics.{length, slots_to_come}
use Rattle.hd_dep.proofs.DependentClear.{IsDetaching}
use Rattle.hd_dep.proofs.clearing.clear.Given as goal

abbrev pub invariant-loop-slot : goal.invariant-loop-slot
invariant-loop-slot g l =
    IsDetaching l.initial.seg l.ages l.n (g.M.Marker.promoted l.marker) l.seg l.rows l.initial.steps l.steps
    l.cleared

abbrev pub decreases-loop-slot : goal.decreases-loop-slot
decreases-loop-slot g l = length (slots_to_come l.seg l.ages l.rows)
