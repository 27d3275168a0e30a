use Rattle.hd_plan.proofs.Basics.{length, vec_capacity, ◌+◌, ◌-◌, ◌<◌}
use Rattle.hd_model.specs.declared.limits.TheConstants.{REGIONS}
use Rattle.hd_plan.specs.Inside.{HasLayRoom, IsLaidTo}
use Rattle.hd_plan.proofs.lay.lay_regions.Given as goal

abbrev pub invariant-loop-region : goal.invariant-loop-region
invariant-loop-region g l = record {
  laid : IsLaidTo l.heap l.n (g.M.Marker.promoted l.marker) (g.M.Marker.pinned l.marker) l.moves.items
      l.regions.items l.forwards.firsts.items l.forwards.cells.items l.cursors (l.after + 1);
  within : l.after < REGIONS;
  room : HasLayRoom l.heap l.n (vec_capacity l.moves) (vec_capacity l.regions)
      (length l.forwards.firsts.items) (length l.forwards.cells.items);
}

abbrev pub decreases-loop-region : goal.decreases-loop-region
decreases-loop-region g l = REGIONS - l.after
