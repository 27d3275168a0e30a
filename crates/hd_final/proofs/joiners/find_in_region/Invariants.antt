use Rattle.hd_final.proofs.Basics.{IsFinding, REGION, vec_capacity, ◌*◌, ◌+◌, ◌-◌, ◌≡◌, ◌≤◌}
use Rattle.hd_final.proofs.joiners.find_in_region.Given as goal

abbrev pub invariant-loop-object : goal.invariant-loop-object
invariant-loop-object g l = record {
  heap : l.objects.heap ≡ l.heap;
  region : l.objects.region ≡ l.region;
  finding : IsFinding l.heap (g.M.Marker.basis l.marker).condemned (g.M.Marker.promoted l.marker)
      (l.region * REGION + l.objects.end) l.joiners.items;
  within : l.objects.end ≤ REGION;
  capacity : vec_capacity l.joiners ≡ vec_capacity l.fn.joiners;
}

abbrev pub decreases-loop-object : goal.decreases-loop-object
decreases-loop-object g l = REGION - l.objects.end
