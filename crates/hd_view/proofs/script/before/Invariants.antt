use Rattle.std.proofs.Common.{◌-◌}
use Rattle.hd_view.proofs.LinesBefore.{Passed}
use Rattle.hd_view.proofs.script.before.Given as goal

-- the lines so far are those before the rest
abbrev pub invariant-lines : goal.invariant-lines
invariant-lines l = Passed l.bytes l.rest l.passed l.line

abbrev pub decreases-lines : goal.decreases-lines
decreases-lines l = l.line - l.passed
