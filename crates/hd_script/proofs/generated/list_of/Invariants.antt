use Rattle.hd_script.proofs.Basics.{◌≡◌}
use Rattle.hd_script.proofs.LoadRounds.{rounds_of}
use Rattle.hd_script.proofs.generated.list_of.Given as goal

-- the list has the rounds so far
abbrev pub invariant-loop-done : goal.invariant-loop-done
invariant-loop-done l = l.list.items ≡ rounds_of l.caller l.done
