use Rattle.hd_dep.proofs.Basics.{IsYoungField, length, objects_of, take, ◌≡◌}
use Rattle.hd_dep.proofs.WaitingLists.{IsPassing}
use Rattle.hd_dep.proofs.waiting.promote_for.Given as goal

abbrev pub invariant-loop-secondary : goal.invariant-loop-secondary
invariant-loop-secondary g l = record {
  settled : g.M.Marker.settled l.marker;
  basis : g.M.Marker.basis l.marker ≡ g.M.Marker.basis l.initial.marker;
  pinned : g.M.Marker.pinned l.marker ≡ g.M.Marker.pinned l.initial.marker;
  log : take (length (g.M.PromotionLog.log l.initial.marker)) (g.M.PromotionLog.log l.marker)
      ≡ g.M.PromotionLog.log l.initial.marker;
  passing :
      IsPassing (IsYoungField (objects_of (g.M.Marker.basis l.initial.marker))
      (g.M.Marker.basis l.initial.marker).condemned) l.rows l.target
      (g.M.Marker.promoted l.initial.marker) l.at (g.M.Marker.promoted l.marker);
}

abbrev pub decreases-loop-secondary : goal.decreases-loop-secondary
decreases-loop-secondary g l = l.at
