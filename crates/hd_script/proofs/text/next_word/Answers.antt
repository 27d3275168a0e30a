use Rattle.hd_script.proofs.Basics.{arith, nat_tests, sym, words_at, ◌∙◌}
use Rattle.hd_script.proofs.LineSplit.{no_word, one_word, end_first}
use Rattle.hd_script.proofs.text.next_word.Goals as goal

pub returns-then-begins_end-clause-words : goal.returns-then-begins_end-clause-words
returns-then-begins_end-clause-words c =
    sym c.from_word-bytes.ensures.words
    ∙ end_first c.from_word-bytes.result.now (sym c.begins_end.ensures ∙ c.if-begins_end.true)

pub returns-then-is_empty-clause-words : goal.returns-then-is_empty-clause-words
returns-then-is_empty-clause-words c =
    sym c.from_word-bytes.ensures.words ∙ c.first_word.ensures.words
    ∙ no_word c.first_word.result.0.now (words_at c.first_word.result.1.now) (grind (arith, nat_tests))

pub returns-else-is_empty-clause-words : goal.returns-else-is_empty-clause-words
returns-else-is_empty-clause-words c =
    sym c.from_word-bytes.ensures.words ∙ c.first_word.ensures.words
    ∙ one_word c.first_word.result.0.now (words_at c.first_word.result.1.now) (grind (arith, nat_tests))
