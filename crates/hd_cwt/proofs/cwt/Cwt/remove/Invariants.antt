use Rattle.hd_cwt.proofs.cwt.Cwt.remove.Given as goal

abbrev pub ghosts-remove_on : goal.ghosts-remove_on
ghosts-remove_on a = record { name = a.blank.name; parts = a.blank.parts }
