use Rattle.hd_store.proofs.store.Store.add_entry.Given as goal

abbrev pub ghosts-add_entry_on : goal.ghosts-add_entry_on
ghosts-add_entry_on a = record { name = a.blank.name; parts = a.blank.parts }
