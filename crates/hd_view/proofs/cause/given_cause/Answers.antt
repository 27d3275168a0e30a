use Rattle.std.proofs.Common.{sym, true≢false, ◌∙◌}
use Rattle.hd_view.proofs.RowCauses.{back_reads, back_slot, is_absent, is_there, not_given}
use Rattle.hd_view.proofs.cause.given_cause.Goals as goal

pub other_block-requires : goal.other_block-requires
other_block-requires c = λ all. true≢false (sym (c.is_all_free.ensures.1 all) ∙ c.if-not-is_all_free.true)

pub returns-then-not-is_all_free : goal.returns-then-not-is_all_free
returns-then-not-is_all_free c = λ p next like replied slot_is grown.
    c.other_block.ensures p replied
    (not_given c.args.before.now p c.args.kind next c.args.block grown
    (λ all. true≢false (sym (c.is_all_free.ensures.1 all) ∙ c.if-not-is_all_free.true)))

pub returns-then-is_some : goal.returns-then-is_some
returns-then-is_some c = λ p next like replied slot_is grown.
    back_slot c.args.before.now p c.args.kind next like c.args.block
    (c.is_all_free.ensures.0 c.if-not-is_all_free.false) grown
    (λ none. is_there c.args.slot (sym c.is_some.ensures ∙ c.if-is_some.true) (sym slot_is ∙ none))

pub returns-else-is_some : goal.returns-else-is_some
returns-else-is_some c = λ p next like replied slot_is grown.
    back_reads c.args.before.now p c.args.kind next like c.args.block
    (c.is_all_free.ensures.0 c.if-not-is_all_free.false) grown
    (slot_is ∙ is_absent c.args.slot (sym c.is_some.ensures ∙ c.if-is_some.false))
