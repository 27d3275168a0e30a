use Rattle.hd_tiers.proofs.Basics.{BITS, HasAllBetween, ◌*◌}
use Rattle.hd_tiers.proofs.masks.Masks.gap_beyond.Given as goal

abbrev pub invariant-loop-at : goal.invariant-loop-at
invariant-loop-at l = HasAllBetween l.self.members (BITS * l.block) (BITS * l.at)
