use Rattle.hd_scan.proofs.Basics.{length, objects_of, slots_to_come, ◌≡◌}
use Rattle.hd_scan.proofs.RootPromote.{IsRooting}
use Rattle.hd_scan.proofs.roots.promote_rows.Given as goal

abbrev pub invariant-loop-slot : goal.invariant-loop-slot
invariant-loop-slot g l = record {
  settled : g.M.Marker.settled l.marker;
  basis : g.M.Marker.basis l.marker ≡ g.M.Marker.basis l.initial.marker;
  rooting : IsRooting (objects_of (g.M.Marker.basis l.initial.marker)) l.seg l.ages l.n l.task
      (g.M.Marker.promoted l.initial.marker) (g.M.Marker.pinned l.initial.marker) l.rows l.initial.steps
      l.steps l.held (g.M.Marker.promoted l.marker) (g.M.Marker.pinned l.marker);
}

abbrev pub decreases-loop-slot : goal.decreases-loop-slot
decreases-loop-slot g l = length (slots_to_come l.seg l.ages l.rows)
