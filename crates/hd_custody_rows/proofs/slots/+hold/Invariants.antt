use Rattle.hd_custody_rows.proofs.slots.+hold.Given as goal

abbrev pub decreases-hold : goal.decreases-hold
decreases-hold l = l.n
