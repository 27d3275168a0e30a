-- The lowest bits are taken, one in each round.
use Rattle.hd_mask.proofs.LowestBits.{Left}
use Rattle.hd_mask.proofs.take_lowest.Given as goal

abbrev pub invariant-loop-taken : goal.invariant-loop-taken
invariant-loop-taken l = Left l.mask l.left l._taken
