use Rattle.hd_plan.proofs.Basics.{IsLaying, REGION, vec_capacity, ◌*◌, ◌+◌, ◌-◌, ◌≡◌, ◌≤◌}
use Rattle.hd_plan.specs.Inside.{AreLaidIn, with_cursor_at}
use Rattle.hd_plan.proofs.lay.lay_objects.Given as goal

abbrev pub invariant-loop-object : goal.invariant-loop-object
invariant-loop-object g l = record {
  walk : l.objects ≡ record { heap = l.heap; region = l.region; end = l.objects.end };
  within : l.objects.end ≤ REGION;
  laying : IsLaying l.heap (g.M.Marker.basis l.marker).condemned (g.M.Marker.promoted l.marker)
      (g.M.Marker.pinned l.marker) l.moves.items
      (with_cursor_at l.fn.cursors l.generation l.cursor l.opened) (l.region * REGION + l.objects.end);
  these : AreLaidIn l.fn.moves.items l.moves.items l.region l.k l.pinned l.fn.forwards.cells.items
      l.forwards.cells.items;
  firsts : l.forwards.firsts.items ≡ l.fn.forwards.firsts.items;
  capacity : vec_capacity l.moves ≡ vec_capacity l.fn.moves;
}

abbrev pub decreases-loop-object : goal.decreases-loop-object
decreases-loop-object g l = REGION - l.objects.end
