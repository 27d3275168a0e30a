use Rattle.hd_host.proofs.HandleKinds.{AreLeft}
use Rattle.hd_host.proofs.kinds.first_row.Given as goal

-- the rows that are left
abbrev pub invariant-loop-step : goal.invariant-loop-step
invariant-loop-step l = AreLeft l.store l.cleared l.block l.first l.rows

abbrev pub decreases-loop-step : goal.decreases-loop-step
decreases-loop-step l = l.rows
