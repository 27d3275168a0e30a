use Rattle.std.proofs.Common.{arith, sym, ◌∙◌}
use Rattle.hd_view.specs.Cause.{first_stated}
use Rattle.hd_view.proofs.RowCauses.{is_there}
use Rattle.hd_view.proofs.cause.full_cause.Goals as goal

pub returns-then-not-grows : goal.returns-then-not-grows
returns-then-not-grows c = λ none due line is wrong. none

pub returns-then-unused-needed : goal.returns-then-unused-needed
returns-then-unused-needed c = λ none due line is wrong. record {
  none = none;
  due = due;
  grows = is_there (first_stated c.args.stated.grown) (sym c.grows.ensures ∙ c.if-not-grows.false);
  unused_is = c.unused_blocks-unused.ensures;
  few = omega (arith, c.if-unused-needed.true, c.needed_blocks-needed.ensures.value);
}

pub returns-else-unused-needed : goal.returns-else-unused-needed
returns-else-unused-needed c = λ none due line is wrong. none
