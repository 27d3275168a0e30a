use Rattle.hd_script.proofs.Basics.{length, line_after, words_at, ◌≡◌}
use Rattle.hd_script.proofs.text.from_word.Given as goal

-- the blanks so far change no words, and are in one line
abbrev pub invariant-blanks : goal.invariant-blanks
invariant-blanks l = (words_at l.rest ≡ words_at l.bytes) × (line_after l.rest ≡ line_after l.bytes)

abbrev pub decreases-blanks : goal.decreases-blanks
decreases-blanks l = length l.rest
