use Rattle.hd_ages.proofs.Basics.{HOST_BLOCKS, CLUMPS, length, raised, ◌*◌, ◌-◌, ◌≡◌, ◌≤◌}
use Rattle.hd_ages.proofs.MappedPrefixes.{mapped_to}
use Rattle.hd_ages.proofs.age_map.AgeMap.grow_blocks.Given as goal

abbrev pub invariant-loop-block : goal.invariant-loop-block
invariant-loop-block l = record {
  few : l.after ≤ HOST_BLOCKS;
  within : CLUMPS * l.after ≤ length l.self;
  done : l.self ≡ mapped_to (raised l.n) (CLUMPS * l.after) l.fn.self;
}

abbrev pub decreases-loop-block : goal.decreases-loop-block
decreases-loop-block l = length l.fn.self - CLUMPS * l.after
