use Rattle.hd_gc.proofs.Basics.{Contains, Promotes, Some, length, take, ◌-◌, ◌≤◌}
use Rattle.hd_gc.proofs.marking.promote_roots.Given as goal

abbrev pub invariant-loop-at : goal.invariant-loop-at
invariant-loop-at l = record {
  promoted : Promotes (λ x. Contains (take l.at l.roots) (Some x)) l.fn.marks l.marks;
  within : l.at ≤ length l.roots;
}

abbrev pub decreases-loop-at : goal.decreases-loop-at
decreases-loop-at l = length l.roots - l.at
