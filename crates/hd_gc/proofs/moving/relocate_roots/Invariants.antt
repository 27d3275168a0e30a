use Rattle.hd_gc.proofs.Basics.{forwarding_in, length, option_map, ◌-◌, ◌≡◌, ◌≤◌}
use Rattle.hd_ages.proofs.MappedPrefixes.{mapped_to}
use Rattle.hd_gc.proofs.moving.relocate_roots.Given as goal

abbrev pub invariant-loop-roots : goal.invariant-loop-roots
invariant-loop-roots l = record {
  moved : l.roots ≡ mapped_to (option_map (forwarding_in l.plan)) l.at l.fn.roots;
  within : l.at ≤ length l.roots;
}

abbrev pub decreases-loop-roots : goal.decreases-loop-roots
decreases-loop-roots l = length l.roots - l.at
