use Rattle.std.proofs.Common.{arith, sym, ◌∙◌, true≢false}
use Rattle.hd_view.proofs.RowCauses.{first_growing, first_in_use, second_growing, second_in_use, two_alone}
use Rattle.hd_view.proofs.cause.two_cause.Goals as goal

pub returns-then-not-paired : goal.returns-then-not-paired
returns-then-not-paired c = λ p d slot_is is.
    two_alone c.args.before.now p c.args.kind d c.args.block c.args.other is
    (sym c.paired.ensures ∙ c.if-not-paired.true)

pub returns-then-has_use : goal.returns-then-has_use
returns-then-has_use c = λ p d slot_is is.
    first_in_use c.args.before.now p c.args.kind d c.args.block c.args.other is
    (sym c.paired.ensures ∙ c.if-not-paired.false) (c.has_use.ensures.0 c.if-has_use.true)

pub returns-then-has_use-2 : goal.returns-then-has_use-2
returns-then-has_use-2 c = λ p d slot_is is.
    second_in_use c.args.before.now p c.args.kind d c.args.block c.args.other is
    (sym c.paired.ensures ∙ c.if-not-paired.false) (c.has_use-else-has_use.ensures.0 c.if-has_use-2.true)

pub overflow_add-block : goal.overflow_add-block
overflow_add-block c = let few = c.is_least.ensures.few c.if-is_least.true in omega (arith, few)

pub returns-then-is_least : goal.returns-then-is_least
returns-then-is_least c = λ p d slot_is is.
    c.least_cause.ensures p c.args.kind
    (second_growing c.args.before.now p c.args.kind d c.args.block c.args.other is
    (sym c.paired.ensures ∙ c.if-not-paired.false) (c.is_least.ensures.least.0 c.if-is_least.true)) slot_is

pub returns-else-is_least : goal.returns-else-is_least
returns-else-is_least c = λ p d slot_is is.
    c.least_cause-else-is_least.ensures p c.args.kind
    (first_growing c.args.before.now p c.args.kind d c.args.block c.args.other is
    (sym c.paired.ensures ∙ c.if-not-paired.false)
    (λ least. true≢false (sym (c.is_least.ensures.least.1 least) ∙ c.if-is_least.false))) slot_is
