use Rattle.std.proofs.Common.{sym, ◌∙◌, true≢false}
use Rattle.hd_view.specs.Inside.{parts_in}
use Rattle.hd_view.proofs.RowCauses.{is_absent, is_there, none_grows, none_reads, none_replied, none_slot}
use Rattle.hd_view.proofs.cause.none_cause.Goals as goal

pub blocks_cause-requires : goal.blocks_cause-requires
blocks_cause-requires c = λ same. true≢false (sym (c.same_blocks.ensures.1 same) ∙ c.if-not-same_blocks.true)

pub returns-then-not-same_blocks : goal.returns-then-not-same_blocks
returns-then-not-same_blocks c = λ zero k kind next.
    let p = parts_in c.args.stated in
    c.blocks_cause.ensures k (none_replied k p kind next zero) (none_grows k p kind next zero)

pub returns-then-is_some : goal.returns-then-is_some
returns-then-is_some c = λ zero k kind next.
    none_slot k (parts_in c.args.stated) kind next zero (c.same_blocks.ensures.0 c.if-not-same_blocks.false)
    (is_there (parts_in c.args.stated).slot (sym c.is_some.ensures ∙ c.if-is_some.true))

pub returns-else-is_some : goal.returns-else-is_some
returns-else-is_some c = λ zero k kind next.
    none_reads k (parts_in c.args.stated) kind next zero
    (is_absent (parts_in c.args.stated).slot (sym c.is_some.ensures ∙ c.if-is_some.false))
    (c.same_blocks.ensures.0 c.if-not-same_blocks.false)
