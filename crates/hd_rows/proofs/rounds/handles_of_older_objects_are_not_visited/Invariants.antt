use Rattle.std.proofs.Common.{◌≡◌, ◌*◌, length}
use Rattle.hd_plan.specs.Plan.{HasNoEmptyRegion}
use Rattle.hd_rows.proofs.rounds.handles_of_older_objects_are_not_visited.Given as goal

abbrev pub invariant-loop-made : goal.invariant-loop-made
invariant-loop-made g l = HasNoEmptyRegion l.s.heap × (length l.s.ages ≡ 4 * l.s.seg.blocks)
