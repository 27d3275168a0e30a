use Rattle.std.proofs.Common.{length}
use Rattle.hd_audit.proofs.LinesSoFar.{IsAt}
use Rattle.hd_audit.proofs.lines.Progress.judge.Given as goal

-- the lines so far are judged, and the rest is left
abbrev pub invariant-lines : goal.invariant-lines
invariant-lines l = IsAt l.fn.self.machine.numbers l.scripts l.self l.text l.rest l.lines

abbrev pub decreases-lines : goal.decreases-lines
decreases-lines l = length l.rest
