use Rattle.hd_script.proofs.Basics.{None, Some, ap, sym, ◌∙◌}
use Rattle.hd_faults.specs.Inside.{seen}
use Rattle.hd_faults.specs.Placed.{bytes_of, words_from}
use Rattle.hd_faults.proofs.CauseSteps.{by_form, other_count, right_count}
use Rattle.hd_faults.proofs.fault.fault_of_words.Goals as goal

pub returns-in_default-clause-cause : goal.returns-in_default-clause-cause
returns-in_default-clause-cause c =
    let words = words_from c.args.first.now.end c.args.first.now.rest.now in
    ap Some c.command_fault.ensures.cause
    ∙ sym (by_form c.args.first.now.word.now c.second_word-kind.result.now (bytes_of words) None
    c.second_word-kind.ensures c.in_default.ensures)

pub returns-then-is_other_count-clause-cause : goal.returns-then-is_other_count-clause-cause
returns-then-is_other_count-clause-cause c =
    let words = words_from c.args.first.now.end c.args.first.now.rest.now in
    ap Some (c.command_fault-then-is_other_count.ensures.cause ∙ c.count_cause.ensures)
    ∙ sym (by_form c.args.first.now.word.now c.second_word-kind.result.now (bytes_of words)
    (Some (seen c.in-Some.form)) c.second_word-kind.ensures c.in-Some.ensures
    ∙ other_count (seen c.in-Some.form) words c.count_words-has.result c.count_words-has.ensures
    (sym c.is_other_count.ensures ∙ c.if-is_other_count.true))

pub returns-clause-cause : goal.returns-clause-cause
returns-clause-cause c =
    let words = words_from c.args.first.now.end c.args.first.now.rest.now in
    c.operand_fault.ensures.cause
    ∙ sym (by_form c.args.first.now.word.now c.second_word-kind.result.now (bytes_of words)
    (Some (seen c.in-Some.form)) c.second_word-kind.ensures c.in-Some.ensures
    ∙ right_count (seen c.in-Some.form) words c.count_words-has.result c.count_words-has.ensures
    (sym c.is_other_count.ensures ∙ c.if-is_other_count.false))
