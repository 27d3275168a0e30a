use Rattle.hd_rows.proofs.state.collected.Given as goal

abbrev pub ghosts-collect_by : goal.ghosts-collect_by
ghosts-collect_by g a = record { name = a.blank.name; parts = a.blank.parts }
