use Rattle.hd_script.proofs.Basics.{List, ap, arith, drop, refl, sym, ℕ, ◌∙◌}
use Rattle.hd_faults.specs.Causes.{operand_cause}
use Rattle.hd_faults.specs.Placed.{bytes_of, words_from}
use Rattle.hd_model.specs.declared.operand.Operand.TheVariants.{Object}
use Rattle.hd_faults.proofs.CauseSteps.{goes_on, next_left, no_operand, stands_after}
use Rattle.hd_faults.proofs.fault.operand_fault.Goals as goal

pub returns-in_default-clause-cause : goal.returns-in_default-clause-cause
returns-in_default-clause-cause c =
    let left = drop c.operands.wanted-index c.args.operands.now in
    sym (c.operands.invariant.cause
    ∙ ap (λ (words : List (ℕ × List ℕ)). operand_cause c.operands.number left (bytes_of words))
    c.in_default.ensures.words ∙ no_operand c.operands.number left)

pub returns-then-not-fits-clause-position : goal.returns-then-not-fits-clause-position
returns-then-not-fits-clause-position c =
    let found = c.in-Some.found in
    record {
      command = refl;
      word = stands_after (words_from c.args.first.now.end c.args.first.now.rest.now) c.operands.wanted-index
          (found.column, found.word.now) (words_from found.end found.rest.now)
          (c.operands.invariant.words ∙ c.in-Some.ensures.words)
          (c.args.first.now.column, c.args.first.now.word.now) c.operands.number c.operands.invariant.number;
    }

pub operands-preserved : goal.operands-preserved
operands-preserved c =
    let found = c.in-Some.found in
    let i = c.operands.wanted-index in
    let left = drop i c.args.operands.now in
    record {
      number = omega (arith, c.operands.invariant.number);
      words = next_left (words_from c.args.first.now.end c.args.first.now.rest.now) i
          (found.column, found.word.now) (words_from found.end found.rest.now)
          (c.operands.invariant.words ∙ c.in-Some.ensures.words);
      cause = c.operands.invariant.cause
          ∙ ap (λ (words : List (ℕ × List ℕ)). operand_cause c.operands.number left (bytes_of words))
          c.in-Some.ensures.words
          ∙ goes_on c.operands.number i c.args.operands.now Object found.word.now
          (bytes_of (words_from found.end found.rest.now)) (omega arith)
          (sym c.fits.ensures ∙ c.if-not-fits.false);
      room = omega (arith, c.operands.invariant.room, c.in-Some.ensures.room);
    }
