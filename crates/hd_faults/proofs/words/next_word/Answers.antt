use Rattle.hd_script.proofs.Basics.{arith, sym, take_rest, ◌∙◌}
use Rattle.hd_faults.proofs.PlacedWords.{no_words, word_here}
use Rattle.hd_faults.proofs.words.next_word.Goals as goal

pub returns-then-len-eq0-clause-words : goal.returns-then-len-eq0-clause-words
returns-then-len-eq0-clause-words c =
    sym c.from_word-column.ensures.words
    ∙ no_words c.from_word-column.result.1 c.from_word-column.result.0.now c.from_word-column.ensures.begins
    (sym c.word_len-len.ensures.first ∙ c.if-len-eq0.true)

pub returns-clause-words : goal.returns-clause-words
returns-clause-words c =
    sym c.from_word-column.ensures.words
    ∙ rw take_rest
    (word_here c.from_word-column.result.1 c.from_word-column.result.0.now c.word_len-len.result
    c.word_len-len.ensures.first (omega (arith, c.if-len-eq0.false)))
