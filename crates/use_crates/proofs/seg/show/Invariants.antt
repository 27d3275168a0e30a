use Rattle.use_crates.proofs.seg.show.Given as goal

abbrev pub ghosts-print_due : goal.ghosts-print_due
ghosts-print_due g a = record { name = a.blank.name; parts = a.blank.parts }
