use Rattle.std.proofs.Common.{length, ◌+◌, ◌≡◌, ◌≤◌}
use Rattle.hd_faults.specs.Placed.{words_from}
use Rattle.hd_faults.proofs.words.count_words.Given as goal

-- the words so far and those that are left are all words
abbrev pub invariant-words : goal.invariant-words
invariant-words l = record {
  all : l.count + length (words_from l.column l.rest) ≡ length (words_from l.start l.bytes);
  room : l.column + length l.rest ≤ l.start + length l.bytes;
  few : l.count ≤ l.column;
}

abbrev pub decreases-words : goal.decreases-words
decreases-words l = length l.rest
