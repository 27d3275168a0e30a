use Rattle.std.proofs.Common.{sym, ◌∙◌}
use Rattle.hd_view.proofs.RowCauses.{one_growing, one_in_use, one_paired}
use Rattle.hd_view.proofs.cause.one_cause.Goals as goal

pub returns-then-paired : goal.returns-then-paired
returns-then-paired c = λ p d slot_is is.
    one_paired c.args.before.now p c.args.kind d c.args.block is (sym c.paired.ensures ∙ c.if-paired.true)

pub returns-then-has_use : goal.returns-then-has_use
returns-then-has_use c = λ p d slot_is is.
    one_in_use c.args.before.now p c.args.kind d c.args.block is (sym c.paired.ensures ∙ c.if-paired.false)
    (c.has_use.ensures.0 c.if-has_use.true)

pub returns-else-has_use : goal.returns-else-has_use
returns-else-has_use c = λ p d slot_is is.
    c.least_cause.ensures p c.args.kind
    (one_growing c.args.before.now p c.args.kind d c.args.block is (sym c.paired.ensures ∙ c.if-paired.false))
    slot_is
