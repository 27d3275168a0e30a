use Rattle.hd_plan.proofs.Basics.{AreRewritten, IsStayedAt}
use Rattle.hd_plan.proofs.rewriting.rewrite_pinned.Given as goal

abbrev pub invariant-loop-object : goal.invariant-loop-object
invariant-loop-object g l =
    AreRewritten (IsStayedAt l.moves l.object-index) (g.F.Forward.forwarding l.forward) l.initial.heap l.heap
