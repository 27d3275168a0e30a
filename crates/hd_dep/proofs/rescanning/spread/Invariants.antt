use Rattle.hd_dep.proofs.Basics.{length, objects_of, slots_to_come, ◌≡◌}
use Rattle.hd_dep.proofs.SecondarySpread.{IsSpreading}
use Rattle.hd_dep.proofs.rescanning.spread.Given as goal

abbrev pub invariant-loop-slot : goal.invariant-loop-slot
invariant-loop-slot g l = record {
  settled : g.M.Marker.settled l.marker;
  basis : g.M.Marker.basis l.marker ≡ g.M.Marker.basis l.initial.marker;
  pinned : g.M.Marker.pinned l.marker ≡ g.M.Marker.pinned l.initial.marker;
  spreading : IsSpreading (objects_of (g.M.Marker.basis l.initial.marker)) l.n l.seg l.ages
      (g.M.Marker.promoted l.initial.marker) l.rows l.initial.steps l.steps (g.M.Marker.promoted l.marker)
      l.more;
}

abbrev pub decreases-loop-slot : goal.decreases-loop-slot
decreases-loop-slot g l = length (slots_to_come l.seg l.ages l.rows)
