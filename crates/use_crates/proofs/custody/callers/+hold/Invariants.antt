use Rattle.use_crates.proofs.custody.callers.+hold.Given as goal

abbrev pub decreases-hold : goal.decreases-hold
decreases-hold l = l.n
