use Rattle.std.proofs.Common.{arith, position, drop, List, ℕ, ap, ◌∙◌}
use Rattle.std.proofs.lemmas.List.{take_rest}
use Rattle.hd_model.specs.Grammar.{is_line_end}
use Rattle.hd_step.proofs.FirstLines.{too_long_more, memory_more, broke_more, first_behind, none_behind, filled_more, filled_none}
use Rattle.hd_step.proofs.reader.Reader.read_on.Goals as goal

pub reading-init : goal.reading-init
reading-init g c = record {
  more = c.requires.more;
  unended = c.requires.unended;
  filled = filled_none _ _;
}

pub returns-in-Err-clause-failed : goal.returns-in-Err-clause-failed
returns-in-Err-clause-failed g c = λ is.
    broke_more _ _ _ _ _ c.reading.invariant.filled (c.in-Err.ensures.failed is)

pub returns-in-Err-clause-too_long : goal.returns-in-Err-clause-too_long
returns-in-Err-clause-too_long g c = λ is.
    too_long_more _ _ _ _ _ c.reading.invariant.filled (c.in-Err.ensures.too_long is)

pub returns-in-Err-clause-memory : goal.returns-in-Err-clause-memory
returns-in-Err-clause-memory g c = λ is.
    memory_more _ _ _ _ _ c.reading.invariant.filled (c.in-Err.ensures.memory is)

pub returns-then-count-eq0-clause-filled : goal.returns-then-count-eq0-clause-filled
returns-then-count-eq0-clause-filled g c =
    filled_more _ _ _ _ _ _ c.reading.invariant.filled c.in-Ok.ensures.filled

pub returns-in-Some-clause-filled : goal.returns-in-Some-clause-filled
returns-in-Some-clause-filled g c =
    filled_more _ _ _ _ _ _ c.reading.invariant.filled c.in-Ok.ensures.filled

pub returns-in-Some-clause-first : goal.returns-in-Some-clause-first
returns-in-Some-clause-first g c =
    let had = c.len-had.result in
    first_behind _ _ _ _ c.in-Ok.ensures.filled c.reading.invariant.unended had c.len-had.ensures
    c.in-Some.end
    (c.in-Some.ensures.first ∙ ap (position is_line_end) (take_rest c.at_hand.result.now had)
    ∙ ap (λ (l : List ℕ). position is_line_end (drop had l)) c.at_hand.ensures)

pub reading-preserved : goal.reading-preserved
reading-preserved g c =
    let had = c.len-had.result in
    record {
      more = c.in-Ok.ensures.some (omega arith);
      unended = none_behind _ _ _ _ c.in-Ok.ensures.filled c.reading.invariant.unended had c.len-had.ensures
          (c.in_default.ensures.first ∙ ap (position is_line_end) (take_rest c.at_hand.result.now had)
          ∙ ap (λ (l : List ℕ). position is_line_end (drop had l)) c.at_hand.ensures);
      filled = filled_more _ _ _ _ _ _ c.reading.invariant.filled c.in-Ok.ensures.filled;
    }
