use Rattle.hd_script.proofs.Basics.{arith, sym, take_rest, ◌∙◌}
use Rattle.std.proofs.lemmas.Grind.{common_steps}
use Rattle.hd_faults.proofs.PlacedWords.{past_blank}
use Rattle.hd_faults.proofs.words.from_word.Goals as goal

pub blanks-preserved : goal.blanks-preserved
blanks-preserved c =
    let first = past_blank c.blanks.column c.blanks.rest.now (sym c.begins_blank.ensures ∙ c.blanks-test.true) in
    record {
      words = rw take_rest (first.0 ∙ c.blanks.invariant.words);
      room = grind (arith, common_steps);
      after = omega (arith, c.blanks.invariant.after);
    }
