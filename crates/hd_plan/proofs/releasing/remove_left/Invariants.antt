use Rattle.hd_plan.proofs.Basics.{AreRemovedIn, is_pinned}
use Rattle.hd_plan.proofs.releasing.remove_left.Given as goal

abbrev pub invariant-loop-object : goal.invariant-loop-object
invariant-loop-object l =
    AreRemovedIn (is_pinned l.regions l.forwards.firsts.items) l.initial.heap l.heap l.moves l.object-index
