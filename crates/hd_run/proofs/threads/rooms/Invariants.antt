use Rattle.hd_run.proofs.Basics.{length, map, take, ◌≡◌}
use Rattle.hd_run.proofs.threads.rooms.Given as goal

-- the rooms of the callers below this one
abbrev pub invariant-loop-caller : goal.invariant-loop-caller
invariant-loop-caller l = l.rooms.items ≡ map length (take l.caller l.scripts)
