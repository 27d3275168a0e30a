use Rattle.hd_plan.proofs.Basics.{AreRewritten, ◌-◌, ◌^◌}
use Rattle.hd_plan.proofs.{LayStep.reach_of, CommitRewrites.IsCardedTo}
use Rattle.hd_plan.proofs.rewriting.rewrite_carded.Given as goal

abbrev pub invariant-loop-at : goal.invariant-loop-at
invariant-loop-at g l =
    AreRewritten (IsCardedTo l.initial.heap l.n l.after) (g.F.Forward.forwarding l.forward)
    l.initial.heap l.heap

abbrev pub decreases-loop-at : goal.decreases-loop-at
decreases-loop-at g l = 2 ^ 32 - reach_of l.after
