use Rattle.std.proofs.Common.{List, ap, sym, ℕ, ◌∙◌, true≢false}
use Rattle.hd_view.specs.{Stated.begins, Inside.parts_in}
use Rattle.hd_view.proofs.RowCauses.{address_grows, address_reads, address_replied, address_slot, address_taken, is_absent, is_there, no_address, no_like}
use Rattle.hd_view.proofs.cause.address_cause.Goals as goal

pub returns-then-not-begins : goal.returns-then-not-begins
returns-then-not-begins c = λ k id next.
    let text = ap (λ (t : List ℕ). begins c.args.stated.tail.now t) c.as_bytes.ensures.value in
    no_address k (parts_in c.args.stated) id c.args.free.now next
    (λ is. true≢false (sym is ∙ sym text ∙ sym c.begins.ensures ∙ c.if-not-begins.true))

pub returns-then-not-has : goal.returns-then-not-has
returns-then-not-has c = λ k id next.
    address_taken k (parts_in c.args.stated) id c.args.free.now next
    (λ member. true≢false (sym (c.has.ensures.1 member) ∙ c.if-not-has.true))

pub returns-then-not-is_like : goal.returns-then-not-is_like
returns-then-not-is_like c = λ k id next.
    no_like k (parts_in c.args.stated) id c.args.free.now next
    (λ like. true≢false (sym (c.is_like.ensures.1 like) ∙ c.if-not-is_like.true))

pub blocks_cause-requires : goal.blocks_cause-requires
blocks_cause-requires c = λ same. true≢false (sym (c.same_blocks.ensures.1 same) ∙ c.if-not-same_blocks.true)

pub returns-then-not-same_blocks : goal.returns-then-not-same_blocks
returns-then-not-same_blocks c = λ k id next.
    let p = parts_in c.args.stated in
    c.blocks_cause.ensures k
    (address_replied k p id c.args.free.now next (c.has.ensures.0 c.if-not-has.false)
    (c.is_like.ensures.0 c.if-not-is_like.false))
    (address_grows k p id c.args.free.now next)

pub returns-then-is_some : goal.returns-then-is_some
returns-then-is_some c = λ k id next.
    address_slot k (parts_in c.args.stated) id c.args.free.now next (c.has.ensures.0 c.if-not-has.false)
    (c.is_like.ensures.0 c.if-not-is_like.false) (c.same_blocks.ensures.0 c.if-not-same_blocks.false)
    (is_there (parts_in c.args.stated).slot (sym c.is_some.ensures ∙ c.if-is_some.true))

pub returns-else-is_some : goal.returns-else-is_some
returns-else-is_some c = λ k id next.
    address_reads k (parts_in c.args.stated) id c.args.free.now next (c.has.ensures.0 c.if-not-has.false)
    (c.is_like.ensures.0 c.if-not-is_like.false)
    (is_absent (parts_in c.args.stated).slot (sym c.is_some.ensures ∙ c.if-is_some.false))
    (c.same_blocks.ensures.0 c.if-not-same_blocks.false)
