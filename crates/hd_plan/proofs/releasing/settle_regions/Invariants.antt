use Rattle.hd_plan.proofs.Basics.{AreGivenUp}
use Rattle.hd_plan.proofs.releasing.settle_regions.Given as goal

abbrev pub invariant-loop-condemned : goal.invariant-loop-condemned
invariant-loop-condemned l = AreGivenUp l.initial.heap l.heap l.regions l.condemned-index
