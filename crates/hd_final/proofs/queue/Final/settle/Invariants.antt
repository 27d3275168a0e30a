use Rattle.hd_final.proofs.Basics.{Unregisters, drop, take, ◌-◌}
use Rattle.hd_final.proofs.queue.Final.settle.Given as goal

abbrev pub invariant-loop-i : goal.invariant-loop-i
invariant-loop-i l = Unregisters (take (l.i - l.from) (drop l.from l.self.queued)) l.initial.heap l.heap
