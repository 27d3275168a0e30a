use Rattle.hd_store.proofs.store.Store.find_entry.Given as goal

abbrev pub ghosts-find_entry_on : goal.ghosts-find_entry_on
ghosts-find_entry_on a = record { name = a.blank.name; parts = a.blank.parts }
