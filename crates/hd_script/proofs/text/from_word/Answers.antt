use Rattle.hd_script.proofs.Basics.{sym, take_rest, ◌∙◌}
use Rattle.hd_script.proofs.LineSplit.{blank_first}
use Rattle.hd_script.proofs.text.from_word.Goals as goal

pub blanks-preserved : goal.blanks-preserved
blanks-preserved c =
    let first = blank_first c.blanks.rest.now (sym c.begins_blank.ensures ∙ c.blanks-test.true) in
    (rw take_rest (first.0 ∙ c.blanks.invariant.0), rw take_rest (first.1 ∙ c.blanks.invariant.1))
