use Rattle.std.proofs.Common.{take}
use Rattle.hd_view.specs.Sets.{IsIn}
use Rattle.hd_view.proofs.sets.is_in.Given as goal

abbrev pub invariant-loop-range : goal.invariant-loop-range
invariant-loop-range l = IsIn (take l.range-index l.ranges) l.number → ⊥
