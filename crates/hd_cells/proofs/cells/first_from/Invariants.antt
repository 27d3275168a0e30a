use Rattle.hd_cells.proofs.Basics.{IsReached, ◌-◌}
use Rattle.hd_cells.proofs.cells.first_from.Given as goal

abbrev pub invariant-loop-at : goal.invariant-loop-at
invariant-loop-at l = IsReached l.cells l.fill l.from l.at

abbrev pub decreases-loop-at : goal.decreases-loop-at
decreases-loop-at l = l.fill - l.at
