use Rattle.std.proofs.Common.{length, ◌+◌, ◌≡◌, ◌≤◌}
use Rattle.hd_faults.specs.Placed.{words_from}
use Rattle.hd_faults.proofs.words.from_word.Given as goal

-- the blanks so far change no words
abbrev pub invariant-blanks : goal.invariant-blanks
invariant-blanks l = record {
  words : words_from l.column l.rest ≡ words_from l.start l.bytes;
  room : l.column + length l.rest ≡ l.start + length l.bytes;
  after : l.start ≤ l.column;
}

abbrev pub decreases-blanks : goal.decreases-blanks
decreases-blanks l = length l.rest
