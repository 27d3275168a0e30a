use Rattle.hd_script.proofs.Basics.{None, Some, sym, ◌∙◌}
use Rattle.hd_script.proofs.WordReadings.{behind_three, of_three, of_four, of_five, of_more, then_word, ends, goes_on}
use Rattle.hd_script.proofs.reading.at_least_three_words.Goals as goal

pub returns-in_err-three_words-clause-exact : goal.returns-in_err-three_words-clause-exact
returns-in_err-three_words-clause-exact c =
    rw c.from_residual.ensures
    (of_three None (behind_three c.in_default.ensures.words) c.in_err-three_words.ensures.exact)

pub returns-in_default-clause-exact : goal.returns-in_default-clause-exact
returns-in_default-clause-exact c =
    of_three (Some c.in_ok-three_words.field-0) (behind_three c.in_default.ensures.words)
    c.in_ok-three_words.ensures.exact

pub returns-in_err-four_words-clause-exact : goal.returns-in_err-four_words-clause-exact
returns-in_err-four_words-clause-exact c =
    rw c.from_residual-in_err-four_words.ensures
    (of_four None (behind_three (then_word c.in-Some.ensures.words c.in_default-next_word.ensures.words))
    c.in_err-four_words.ensures.exact)

pub returns-in_default-next_word-clause-exact : goal.returns-in_default-next_word-clause-exact
returns-in_default-next_word-clause-exact c =
    of_four (Some c.in_ok-four_words.field-0)
    (behind_three (then_word c.in-Some.ensures.words c.in_default-next_word.ensures.words))
    c.in_ok-four_words.ensures.exact

pub returns-then-is_some-clause-exact : goal.returns-then-is_some-clause-exact
returns-then-is_some-clause-exact c =
    of_more (behind_three (then_word c.in-Some.ensures.words (then_word c.in-Some-next_word.ensures.words
    (goes_on c.next_word-3.result c.in-Some-next_word.rest_d.now c.next_word-3.ensures.words
    (sym c.is_some.ensures ∙ c.if-is_some.true)).2)))

pub returns-in_err-five_words-clause-exact : goal.returns-in_err-five_words-clause-exact
returns-in_err-five_words-clause-exact c =
    rw c.from_residual-in_err-five_words.ensures
    (of_five None (behind_three (then_word c.in-Some.ensures.words (then_word
    c.in-Some-next_word.ensures.words (ends c.next_word-3.result c.in-Some-next_word.rest_d.now
    c.next_word-3.ensures.words (sym c.is_some.ensures ∙ c.if-is_some.false)))))
    c.in_err-five_words.ensures.exact)

pub returns-clause-exact : goal.returns-clause-exact
returns-clause-exact c =
    of_five (Some c.in_ok-five_words.field-0)
    (behind_three (then_word c.in-Some.ensures.words (then_word c.in-Some-next_word.ensures.words (ends
    c.next_word-3.result c.in-Some-next_word.rest_d.now c.next_word-3.ensures.words (sym c.is_some.ensures ∙
    c.if-is_some.false))))) c.in_ok-five_words.ensures.exact
