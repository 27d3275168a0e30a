use Rattle.hd_view.specs.Inside.{Adds, Between}
use Rattle.hd_view.proofs.sets.add_each.Given as goal

abbrev pub invariant-loop-number : goal.invariant-loop-number
invariant-loop-number g l =
    Adds l.fn.ranges.items l.ranges.items (Between l.first l.number (g.T.Test.tells l.test))
