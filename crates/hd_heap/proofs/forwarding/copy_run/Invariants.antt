use Rattle.hd_heap.proofs.Basics.{ArePut, length, ◌-◌}
use Rattle.hd_heap.proofs.forwarding.copy_run.Given as goal

abbrev pub invariant-loop-region : goal.invariant-loop-region
invariant-loop-region g l =
    ArePut (g.F.Forward.forwarding l.forward) l.source l.moves l.first l.k l.fn.region l.region

abbrev pub decreases-loop-region : goal.decreases-loop-region
decreases-loop-region g l = length l.moves - l.k
