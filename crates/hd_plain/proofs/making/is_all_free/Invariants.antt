use Rattle.std.proofs.Common.{ℕ, ◌+◌, ◌*◌, ◌<◌}
use Rattle.hd_model.specs.State.{IsFree}
use Rattle.hd_plain.proofs.making.is_all_free.Given as goal
use Rattle.hd_model.specs.declared.limits.TheConstants.{ROWS}

abbrev pub invariant-loop-row : goal.invariant-loop-row
invariant-loop-row l =
    (r : ℕ) → r < l.row → IsFree l.machine.state l.kind (record { 0 = l.block * ROWS + r })
