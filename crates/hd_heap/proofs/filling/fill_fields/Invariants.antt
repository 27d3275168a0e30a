use Rattle.hd_heap.proofs.Basics.{IsLaidOut, None, get_or, ◌+◌}
use Rattle.hd_heap.specs.Inside.{stored_target}
use Rattle.hd_heap.proofs.FieldFill.{IsFilling}
use Rattle.hd_heap.proofs.filling.fill_fields.Given as goal

abbrev pub invariant-loop-i : goal.invariant-loop-i
invariant-loop-i l =
    IsFilling (λ k. stored_target (get_or l.targets (l.first + k) None)) l.src l.initial.region l.at l.i
    l.region × IsLaidOut l.region
