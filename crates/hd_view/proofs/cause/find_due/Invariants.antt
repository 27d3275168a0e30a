use Rattle.std.proofs.Common.{take}
use Rattle.std.specs.Prelude.{Contains, ◌≢◌}
use Rattle.hd_view.specs.declared.accepted.Due.{Due}
use Rattle.hd_view.proofs.cause.find_due.Given as goal

abbrev pub invariant-loop-due : goal.invariant-loop-due
invariant-loop-due l = (due : Due) → Contains (take l.due-index l.dues) due → due.caller ≢ l.caller
