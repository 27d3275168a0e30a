use Rattle.hd_script.proofs.Basics.{length}
use Rattle.hd_script.proofs.LineLists.{Follows}
use Rattle.hd_script.proofs.parsing.parse.Given as goal

-- the lists so far and the lines that are left give what the whole gives
abbrev pub invariant-lines : goal.invariant-lines
invariant-lines l = Follows l.bytes l.scripts l.caller l.number l.rest

abbrev pub decreases-lines : goal.decreases-lines
decreases-lines l = length l.rest
