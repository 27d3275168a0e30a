use Rattle.hd_heap.proofs.Basics.{IsLaidOut, stored_forwarding}
use Rattle.hd_heap.proofs.FieldForward.{IsForwarding}
use Rattle.hd_heap.proofs.forwarding.forward_fields.Given as goal

abbrev pub invariant-loop-i : goal.invariant-loop-i
invariant-loop-i g l =
    IsForwarding (stored_forwarding (g.F.Forward.forwarding l.forward)) l.initial.region l.at l.i l.region
    × IsLaidOut l.region
