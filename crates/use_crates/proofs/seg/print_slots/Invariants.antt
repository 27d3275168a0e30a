use Rattle.std.proofs.Common.{length}
use Rattle.hd_ages.specs.Walk.{IsOn, slots_to_come}
use Rattle.use_crates.proofs.seg.print_slots.Given as goal

abbrev pub invariant-loop-slot : goal.invariant-loop-slot
invariant-loop-slot g l = IsOn l.seg l.walk

abbrev pub decreases-loop-slot : goal.decreases-loop-slot
decreases-loop-slot g l = length (slots_to_come l.seg l.ages l.walk)
