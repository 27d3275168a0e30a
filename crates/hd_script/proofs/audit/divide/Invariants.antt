use Rattle.hd_script.proofs.Basics.{length}
use Rattle.hd_script.proofs.DividingLines.{Passed}
use Rattle.hd_script.proofs.audit.divide.Given as goal

-- none of the lines so far divides
abbrev pub invariant-lines : goal.invariant-lines
invariant-lines l = Passed l.bytes l.rest

abbrev pub decreases-lines : goal.decreases-lines
decreases-lines l = length l.rest
