use Rattle.hd_tiers.proofs.Basics.{BITS, HasNoneBetween, ◌*◌}
use Rattle.hd_tiers.proofs.masks.Masks.least_beyond.Given as goal

abbrev pub invariant-loop-at : goal.invariant-loop-at
invariant-loop-at l = HasNoneBetween l.self.members (BITS * l.block) (BITS * l.at)
