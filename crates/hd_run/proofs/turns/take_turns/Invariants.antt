use Rattle.hd_run.proofs.Basics.{IsReadyFor, drop, turns_from, ◌≡◌}
use Rattle.hd_run.proofs.turns.take_turns.Given as goal

-- the turns of this caller and of those after it are left
abbrev pub invariant-callers : goal.invariant-callers
invariant-callers l = record {
  ready : IsReadyFor l.fn.alone.numbers l.scripts (turns_from l.caller (drop l.caller l.scripts)) l.alone;
  numbers : l.alone.numbers ≡ l.fn.alone.numbers;
}
