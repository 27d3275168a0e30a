use Rattle.hd_custody.proofs.types.Custody.split.Given as goal

abbrev pub ghosts-cut : goal.ghosts-cut
ghosts-cut g a = record { share = a._share }
