use Rattle.hd_script.proofs.Basics.{None, Some, refl, sym, ◌∙◌}
use Rattle.hd_script.proofs.WordReadings.{names_caller, of_two}
use Rattle.hd_script.proofs.reading.caller_or_command.Goals as goal

pub returns-in_err-small-clause-exact : goal.returns-in_err-small-clause-exact
returns-in_err-small-clause-exact c =
    rw c.from_residual.ensures
    (names_caller None refl (sym c.spells.ensures ∙ c.if-spells.true) c.in_err-small.ensures.value)

pub returns-in_ok-small-clause-exact : goal.returns-in_ok-small-clause-exact
returns-in_ok-small-clause-exact c =
    names_caller (Some c.in_ok-small.field-0) refl (sym c.spells.ensures ∙ c.if-spells.true)
    c.in_ok-small.ensures.value

pub returns-in_err-two_words-clause-exact : goal.returns-in_err-two_words-clause-exact
returns-in_err-two_words-clause-exact c =
    rw c.from_residual-in_err-two_words.ensures
    (of_two None refl (sym c.spells.ensures ∙ c.if-spells.false) c.in_err-two_words.ensures.exact)

pub returns-in_ok-two_words-clause-exact : goal.returns-in_ok-two_words-clause-exact
returns-in_ok-two_words-clause-exact c =
    of_two (Some c.in_ok-two_words.field-0) refl (sym c.spells.ensures ∙ c.if-spells.false)
    c.in_ok-two_words.ensures.exact
