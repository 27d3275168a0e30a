use Rattle.hd_dep.proofs.Basics.{length, objects_of, slots_to_come, take, vec_capacity, ◌≡◌}
use Rattle.hd_dep.proofs.SecondaryFollow.{IsGathering}
use Rattle.hd_dep.proofs.following.collect_waiting.Given as goal

abbrev pub invariant-loop-slot : goal.invariant-loop-slot
invariant-loop-slot g l = record {
  settled : g.M.Marker.settled l.marker;
  basis : g.M.Marker.basis l.marker ≡ g.M.Marker.basis l.initial.marker;
  pinned : g.M.Marker.pinned l.marker ≡ g.M.Marker.pinned l.initial.marker;
  log : take (length (g.M.PromotionLog.log l.initial.marker)) (g.M.PromotionLog.log l.marker)
      ≡ g.M.PromotionLog.log l.initial.marker;
  room : vec_capacity l.waiting ≡ vec_capacity l.initial.waiting;
  gathering : IsGathering (objects_of (g.M.Marker.basis l.initial.marker)) l.n l.seg l.ages
      (g.M.Marker.promoted l.initial.marker) (vec_capacity l.initial.waiting) l.rows l.initial.steps
      l.steps l.waiting.items (g.M.Marker.promoted l.marker);
}

abbrev pub decreases-loop-slot : goal.decreases-loop-slot
decreases-loop-slot g l = length (slots_to_come l.seg l.ages l.rows)
