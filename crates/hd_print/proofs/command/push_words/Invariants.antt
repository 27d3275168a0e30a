use Rattle.hd_print.proofs.Basics.{join_with_byte, length, map, operand_word, take, ◌*◌, ◌++◌, ◌+◌, ◌∷◌, ◌≡◌, ◌≤◌}
use Rattle.hd_print.proofs.command.push_words.Given as goal

-- the line has the words so far
abbrev pub invariant-loop-operand : goal.invariant-loop-operand
invariant-loop-operand l = record {
  text : l.line ≡ l.fn.line ++ join_with_byte 32
      (l.name ∷ map operand_word (take l.operand-index l.operands));
  short : length l.line ≤ length l.fn.line + 10 + 21 * l.operand-index;
}
