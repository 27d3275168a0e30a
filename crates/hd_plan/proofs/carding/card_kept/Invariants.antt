use Rattle.hd_plan.proofs.Basics.{AreCarded}
use Rattle.hd_plan.proofs.carding.card_kept.Given as goal

abbrev pub invariant-loop-object : goal.invariant-loop-object
invariant-loop-object l = AreCarded l.initial.heap l.heap l.moves l.object-index
