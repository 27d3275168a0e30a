use Rattle.hd_store.proofs.store.Store.collect.Given as goal

abbrev pub ghosts-collect_on : goal.ghosts-collect_on
ghosts-collect_on a = record { name = a.blank.name; parts = a.blank.parts }
