use Rattle.hd_model.proofs.EntryRoom.{idle_slots_are_taken_first}
use Rattle.hd_model.proofs.weak_laws.idle_slots_are_taken_first.Goals as goal

pub returns : goal.returns
returns c = idle_slots_are_taken_first
