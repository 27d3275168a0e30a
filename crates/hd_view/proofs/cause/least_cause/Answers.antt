use Rattle.std.proofs.Common.{subst, sym, true≢false, ◌∙◌}
use Rattle.hd_model.specs.Step.{IsLeastUnused}
use Rattle.hd_view.proofs.RowCauses.{first_reads, growth_missing, none_left, not_first, not_least}
use Rattle.hd_view.proofs.cause.least_cause.Goals as goal

pub returns-in_default : goal.returns-in_default
returns-in_default c = λ p kind g slot_is.
    none_left c.args.before.now p kind c.args.growth c.args.block c.args.from c.args.new g
    c.in_default.ensures.none

pub returns-then-least-block : goal.returns-then-least-block
returns-then-least-block c = λ p kind g slot_is.
    not_least c.args.before.now p kind c.args.growth c.args.block c.args.from c.args.new g
    c.in-Some.least c.in-Some.ensures.found (λ same. c.if-least-block.true (sym same))

pub returns-in_default-slot : goal.returns-in_default-slot
returns-in_default-slot c = λ p kind g slot_is.
    let k = c.args.before.now in
    growth_missing k p kind c.args.growth c.args.block c.args.from c.args.new g
    (subst (λ b. IsLeastUnused k.numbers k.state c.args.from b) c.if-least-block.false c.in-Some.ensures.found)
    (slot_is ∙ c.in_default-slot.is)

pub returns-then-is_first : goal.returns-then-is_first
returns-then-is_first c = λ p kind g slot_is.
    let k = c.args.before.now in
    first_reads k p kind c.args.growth c.args.block c.args.from c.args.new g
    (subst (λ b. IsLeastUnused k.numbers k.state c.args.from b) c.if-least-block.false c.in-Some.ensures.found)
    c.in-Some-slot.slot (slot_is ∙ c.in-Some-slot.is) (c.is_first.ensures.0 c.if-is_first.true)

pub returns-else-is_first : goal.returns-else-is_first
returns-else-is_first c = λ p kind g slot_is.
    let k = c.args.before.now in
    not_first k p kind c.args.growth c.args.block c.args.from c.args.new g
    (subst (λ b. IsLeastUnused k.numbers k.state c.args.from b) c.if-least-block.false c.in-Some.ensures.found)
    c.in-Some-slot.slot (slot_is ∙ c.in-Some-slot.is)
    (λ same. true≢false (sym (c.is_first.ensures.1 same) ∙ c.if-is_first.false))
