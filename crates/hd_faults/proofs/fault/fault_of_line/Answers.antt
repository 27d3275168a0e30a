use Rattle.hd_script.proofs.Basics.{List, ap, is_none, subst, sym, ℕ, ◌∙◌}
use Rattle.std.specs.Prelude.{IfSome}
use Rattle.hd_model.specs.Grammar.{words_of}
use Rattle.hd_faults.specs.Causes.{cause_of}
use Rattle.hd_faults.specs.Faults.{IsPlacedIn}
use Rattle.hd_faults.specs.Placed.{bytes_of}
use Rattle.hd_faults.proofs.CauseReadings.{causes_decide_readings}
use Rattle.hd_faults.proofs.CauseSteps.{no_cause, none_mapped}
use Rattle.hd_faults.proofs.PlacedWords.{line_placed, line_words}
use Rattle.hd_faults.proofs.fault.fault_of_line.Goals as goal

pub returns-in_default-clause-cause : goal.returns-in_default-clause-cause
returns-in_default-clause-cause c =
    no_cause _ (line_words c.args.line.now c.content.result.now c.content.ensures.bytes
    ∙ ap bytes_of c.in_default.ensures.words)

pub returns-clause-cause : goal.returns-clause-cause
returns-clause-cause c =
    c.fault_of_words.ensures.cause
    ∙ ap cause_of (sym (line_words c.args.line.now c.content.result.now c.content.ensures.bytes
    ∙ ap bytes_of c.in-Some.ensures.words))

pub returns-in_default-clause-reading : goal.returns-in_default-clause-reading
returns-in_default-clause-reading c =
    ap is_none (returns-in_default-clause-cause c) ∙ causes_decide_readings (words_of c.args.line.now)

pub returns-clause-reading : goal.returns-clause-reading
returns-clause-reading c =
    none_mapped (λ fault. fault.cause) c.fault_of_words.result ∙ ap is_none (returns-clause-cause c)
    ∙ causes_decide_readings (words_of c.args.line.now)

pub returns-clause-position : goal.returns-clause-position
returns-clause-position c =
    subst (λ (words : List (ℕ × List ℕ)). IfSome c.fault_of_words.result (IsPlacedIn words))
    (sym c.in-Some.ensures.words ∙ line_placed c.args.line.now c.content.result.now c.content.ensures.bytes)
    c.fault_of_words.ensures.position
