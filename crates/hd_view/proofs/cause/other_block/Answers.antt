use Rattle.std.proofs.Common.{sym, true≢false, ◌∙◌}
use Rattle.hd_view.proofs.cause.other_block.Goals as goal

pub returns-then-is_of : goal.returns-then-is_of
returns-then-is_of c = λ p replied given line is wrong. (
  replied,
  (given, c.is_of.ensures.0 c.if-is_of.true, c.requires),
)

pub returns-else-is_of : goal.returns-else-is_of
returns-else-is_of c = λ p replied given line is wrong. (
  replied,
  (given, λ of. true≢false (sym (c.is_of.ensures.1 of) ∙ c.if-is_of.false)),
)
