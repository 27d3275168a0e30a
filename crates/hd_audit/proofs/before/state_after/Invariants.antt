use Rattle.std.proofs.Common.{length, ◌≤◌}
use Rattle.hd_audit.specs.RightVerdicts.{numbers_of}
use Rattle.hd_audit.proofs.LinesSoFar.{IsAt}
use Rattle.hd_audit.proofs.before.state_after.Given as goal

abbrev pub invariant-lines : goal.invariant-lines
invariant-lines l =
    IsAt (numbers_of l.scripts l.heap l.blocks) l.scripts l.judged l.text l.rest l.number
    × (l.number ≤ l.count)

abbrev pub decreases-lines : goal.decreases-lines
decreases-lines l = length l.rest
