use Rattle.std.proofs.Common.{drop, length, ◌+◌, ◌≡◌, ◌≤◌}
use Rattle.hd_model.specs.Grammar.{first_fault, lines_in, readings_of}
use Rattle.hd_faults.proofs.script.find_fault.Given as goal

-- no line so far is at fault
abbrev pub invariant-lines : goal.invariant-lines
invariant-lines l = record {
  here : first_fault (l.number + 1) l.commands (readings_of l.rest) ≡ first_fault 1 0 (readings_of l.bytes);
  lines : drop l.number (lines_in l.bytes) ≡ lines_in l.rest;
  few : l.commands ≤ l.number;
  room : l.number + length l.rest ≤ length l.bytes;
}

abbrev pub decreases-lines : goal.decreases-lines
decreases-lines l = length l.rest
