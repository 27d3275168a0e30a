use Rattle.hd_plan.proofs.Basics.{◌-◌, ◌^◌}
use Rattle.hd_plan.proofs.{LayStep.reach_of, CommitCards.IsExactBehind}
use Rattle.hd_plan.proofs.carding.clear_unneeded.Given as goal

abbrev pub invariant-loop-at : goal.invariant-loop-at
invariant-loop-at l = IsExactBehind l.initial.heap l.heap l.after l.some

abbrev pub decreases-loop-at : goal.decreases-loop-at
decreases-loop-at l = 2 ^ 32 - reach_of l.after
