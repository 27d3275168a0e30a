use Rattle.hd_script.proofs.Basics.{List, ap, line_after, subst, sym, ℕ, ◌∙◌, ◌≡◌}
use Rattle.std.specs.Prelude.{IfSome}
use Rattle.hd_model.specs.Grammar.{reading_of}
use Rattle.hd_script.proofs.WordReadings.{none, lone, then_word}
use Rattle.hd_script.proofs.reading.read_words.Goals as goal

pub returns-in_default-clause-exact : goal.returns-in_default-clause-exact
returns-in_default-clause-exact c = none c.in_default.ensures.words

pub returns-in_err-a-clause-exact : goal.returns-in_err-a-clause-exact
returns-in_err-a-clause-exact c =
    rw c.from_residual.ensures (lone (then_word c.in-Some.ensures.words c.in_err-a.ensures.words))

pub returns-in-Some-next_word-clause-exact : goal.returns-in-Some-next_word-clause-exact
returns-in-Some-next_word-clause-exact c =
    c.at_least_three_words.ensures.exact
    ∙ sym (ap reading_of (then_word c.in-Some.ensures.words (then_word c.in_ok-a.ensures.words
    c.in-Some-next_word.ensures.words)))

pub returns-in-Some-next_word-clause-line : goal.returns-in-Some-next_word-clause-line
returns-in-Some-next_word-clause-line c =
    subst (λ (l : List ℕ). IfSome c.at_least_three_words.result (λ read. line_after read.1.now ≡ l))
    (c.in-Some-next_word.ensures.line ∙ c.in_ok-a.ensures.line ∙ c.in-Some.ensures.line)
    c.at_least_three_words.ensures.line

pub returns-in-None-clause-line : goal.returns-in-None-clause-line
returns-in-None-clause-line c =
    subst (λ (l : List ℕ). IfSome c.caller_or_command.result (λ read. line_after read.1.now ≡ l))
    (c.in_ok-a.ensures.line ∙ c.in-Some.ensures.line) c.caller_or_command.ensures.line

pub returns-in-None-clause-exact : goal.returns-in-None-clause-exact
returns-in-None-clause-exact c =
    c.caller_or_command.ensures.exact
    ∙ sym (ap reading_of (then_word c.in-Some.ensures.words (then_word c.in_ok-a.ensures.words
    c.in-None.ensures.words)))
