use Rattle.std.proofs.Common.{sym, ◌∙◌, true≢false}
use Rattle.hd_view.proofs.cause.blocks_cause.Goals as goal

pub returns-then-same_blocks : goal.returns-then-same_blocks
returns-then-same_blocks c = λ k replied each line is wrong.
    let zero = c.same_blocks.ensures.0 c.if-same_blocks.true in (
      replied,
      (zero, λ e may has none. c.requires (sym (each e may has) ∙ none ∙ sym zero)),
    )

pub returns-then-same_blocks-2 : goal.returns-then-same_blocks-2
returns-then-same_blocks-2 c = λ k replied each line is wrong.
    let zero = c.same_blocks-else-same_blocks.ensures.0 c.if-same_blocks-2.true in (
      replied,
      (
        λ none. true≢false (sym (c.same_blocks.ensures.1 none) ∙ c.if-same_blocks.false),
        λ e may has. each e may has ∙ zero,
      ),
    )

pub returns-else-same_blocks-2 : goal.returns-else-same_blocks-2
returns-else-same_blocks-2 c = λ k replied each line is wrong. (
  replied,
  λ e may has same. c.requires (sym (each e may has) ∙ same),
)
