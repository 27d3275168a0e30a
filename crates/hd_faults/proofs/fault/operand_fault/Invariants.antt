use Rattle.std.proofs.Common.{drop, length, ◌+◌, ◌≡◌, ◌≤◌}
use Rattle.hd_faults.specs.Causes.{operand_cause}
use Rattle.hd_faults.specs.Placed.{bytes_of, words_from}
use Rattle.hd_faults.proofs.fault.operand_fault.Given as goal

-- the operands so far are what they have to be
abbrev pub invariant-operands : goal.invariant-operands
invariant-operands l = record {
  number : l.number ≡ l.wanted-index + 1;
  words : drop l.wanted-index (words_from l.first.end l.first.rest.now) ≡ words_from l.column l.rest;
  cause : operand_cause 1 l.operands (bytes_of (words_from l.first.end l.first.rest.now))
      ≡ operand_cause l.number (drop l.wanted-index l.operands) (bytes_of (words_from l.column l.rest));
  room : l.column + length l.rest ≤ l.first.end + length l.first.rest.now;
}
