use Rattle.std.proofs.Common.{IsSome, ℕ, ◌<◌, ◌≤◌}
use Rattle.std.specs.FinMap.{get}
use Rattle.hd_maps.proofs.table.Table.least_unused.Given as goal

abbrev pub invariant-loop-block : goal.invariant-loop-block
invariant-loop-block l = (b : ℕ) → l.from ≤ b → b < l.block → IsSome (get l.self.uses b)
