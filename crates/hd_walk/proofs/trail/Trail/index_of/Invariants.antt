use Rattle.hd_walk.specs.Trail.{IsNotBefore}
use Rattle.hd_walk.proofs.trail.Trail.index_of.Given as goal

abbrev pub invariant-loop-i : goal.invariant-loop-i
invariant-loop-i l = IsNotBefore l.self l.at l.i
