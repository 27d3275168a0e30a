use Rattle.hd_dep.proofs.Basics.{IsEdge, IsFollowed, OfVisited, Spreads, cond, false, objects_of, row_at, visits_of, ◌+◌, ◌≡◌}
use Rattle.hd_dep.proofs.RescanPasses.{HasPassed, left_in}
use Rattle.hd_model.specs.declared.data.Kind.TheVariants as kind
use Rattle.hd_dep.proofs.rescanning.rescan.Given as goal

abbrev pub invariant-loop-more : goal.invariant-loop-more
invariant-loop-more g l = record {
  settled : g.M.Marker.settled l.marker;
  basis : g.M.Marker.basis l.marker ≡ g.M.Marker.basis l.initial.marker;
  pinned : g.M.Marker.pinned l.marker ≡ g.M.Marker.pinned l.initial.marker;
  spreads : Spreads (IsEdge (objects_of (g.M.Marker.basis l.initial.marker)) (row_at l.seg))
      (g.M.Marker.promoted l.initial.marker) (g.M.Marker.promoted l.marker);
  passed : HasPassed (g.M.Marker.basis l.initial.marker).heap (visits_of l.seg l.ages l.n kind.Dependent)
      (g.M.Marker.promoted l.initial.marker) (g.M.Marker.promoted l.marker) l.initial.steps l.steps l.more;
  followed : l.more ≡ false → OfVisited (row_at l.seg) l.ages l.n (λ h. IsFollowed h
      (g.M.Marker.promoted l.marker));
}

abbrev pub decreases-loop-more : goal.decreases-loop-more
decreases-loop-more g l = left_in (g.M.Marker.basis l.initial.marker).heap (g.M.Marker.promoted l.marker)
    + cond l.more 1 0
