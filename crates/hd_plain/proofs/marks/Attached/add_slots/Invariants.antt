use Rattle.hd_plain.specs.Inside.{attaching_at}
use Rattle.hd_plain.proofs.AttachedLists.{AddsRest}
use Rattle.hd_plain.proofs.marks.Attached.add_slots.Given as goal

abbrev pub invariant-loop-slot : goal.invariant-loop-slot
invariant-loop-slot l = AddsRest (attaching_at l.weak) l.slots l.slot-index l.initial.self l.self
