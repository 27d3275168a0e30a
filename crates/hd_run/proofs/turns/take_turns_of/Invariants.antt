use Rattle.hd_run.proofs.Basics.{IsReadyFor, drop, list_of, turns_from, turns_of, ◌++◌, ◌+◌, ◌≡◌}
use Rattle.hd_run.proofs.turns.take_turns_of.Given as goal

-- this caller's commands from this one on are left, and those of the callers after it
abbrev pub invariant-commands : goal.invariant-commands
invariant-commands l = record {
  ready : IsReadyFor l.fn.alone.numbers l.scripts
      (turns_of l.caller (drop l.i (list_of l.scripts l.caller))
      ++ turns_from (l.caller + 1) (drop (l.caller + 1) l.scripts)) l.alone;
  numbers : l.alone.numbers ≡ l.fn.alone.numbers;
}
