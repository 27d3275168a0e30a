use Rattle.hd_pairs.proofs.+hold.Given as goal

abbrev pub decreases-hold : goal.decreases-hold
decreases-hold l = l.n
