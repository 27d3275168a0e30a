use Rattle.std.proofs.Common.{arith}
use Rattle.hd_walk.proofs.trail.Trail.index_of.Goals as goal

pub loop-i-init : goal.loop-i-init
loop-i-init c = λ i x below at. absurd (omega arith)
