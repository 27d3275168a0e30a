use Rattle.hd_store.proofs.store.Store.remove_entry.Given as goal

abbrev pub ghosts-remove_entry_on : goal.ghosts-remove_entry_on
ghosts-remove_entry_on a = record { name = a.blank.name; parts = a.blank.parts }
