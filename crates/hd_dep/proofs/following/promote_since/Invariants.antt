use Rattle.hd_dep.proofs.Basics.{length, objects_of, ◌-◌, ◌≡◌}
use Rattle.hd_dep.proofs.{RescanPasses.addresses, SecondaryFollow.IsFollowing}
use Rattle.hd_dep.proofs.following.promote_since.Given as goal

abbrev pub invariant-loop-next : goal.invariant-loop-next
invariant-loop-next g l = record {
  settled : g.M.Marker.settled l.marker;
  basis : g.M.Marker.basis l.marker ≡ g.M.Marker.basis l.initial.marker;
  pinned : g.M.Marker.pinned l.marker ≡ g.M.Marker.pinned l.initial.marker;
  following : IsFollowing (objects_of (g.M.Marker.basis l.initial.marker))
      (g.M.Marker.basis l.initial.marker).condemned l.fn.start l.rows
      (g.M.PromotionLog.log l.initial.marker) (g.M.Marker.promoted l.initial.marker) l.next
      (g.M.PromotionLog.log l.marker) (g.M.Marker.promoted l.marker);
}

abbrev pub decreases-loop-next : goal.decreases-loop-next
decreases-loop-next g l = length (addresses (g.M.Marker.basis l.initial.marker).heap) - l.next
