use Rattle.hd_store.proofs.store.Store.needs_slot.Given as goal

abbrev pub ghosts-needs_slot_on : goal.ghosts-needs_slot_on
ghosts-needs_slot_on a = record { name = a.blank.name; parts = a.blank.parts }
