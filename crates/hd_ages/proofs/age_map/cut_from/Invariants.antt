use Rattle.hd_ages.proofs.Basics.{HOST_BLOCKS, ◌+◌, ◌-◌, ◌≤◌}
use Rattle.hd_tiers.specs.Sets.{HasNoneBetween}
use Rattle.hd_ages.specs.Inside.{IsCutFrom}
use Rattle.hd_ages.proofs.age_map.cut_from.Given as goal

abbrev pub invariant-loop-block : goal.invariant-loop-block
invariant-loop-block l = record {
  low : l.fn.first ≤ l.from;
  high : l.from ≤ HOST_BLOCKS + 1;
  kept : IsCutFrom l.fn.first l.fn.set l.set;
  none : HasNoneBetween l.set.members l.fn.first l.from;
}

abbrev pub decreases-loop-block : goal.decreases-loop-block
decreases-loop-block l = HOST_BLOCKS + 1 - l.from
