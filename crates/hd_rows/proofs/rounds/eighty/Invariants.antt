use Rattle.std.proofs.Common.{◌≡◌, ◌*◌, length}
use Rattle.hd_plan.specs.Plan.{HasNoEmptyRegion}
use Rattle.hd_rows.proofs.rounds.eighty.Given as goal

abbrev pub invariant-loop-k : goal.invariant-loop-k
invariant-loop-k g l = HasNoEmptyRegion l.s.heap × (length l.s.ages ≡ 4 * l.s.seg.blocks)
