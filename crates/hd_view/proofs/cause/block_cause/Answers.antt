use Rattle.std.proofs.Common.{sym, ◌∙◌, true≢false}
use Rattle.hd_view.specs.Inside.{parts_in}
use Rattle.hd_view.proofs.RowCauses.{no_value_reply}
use Rattle.hd_view.proofs.cause.block_cause.Goals as goal

pub returns-then-is_like : goal.returns-then-is_like
returns-then-is_like c =
    c.none_cause.ensures (c.is_like.ensures.0 c.if-is_like.true) c.args.before.now c.args.kind c.requires

pub back_cause-requires-clause-like : goal.back_cause-requires-clause-like
back_cause-requires-clause-like c = c.is_like-else-is_like.ensures.0 c.if-is_like-2.true

pub returns-else-is_like-2 : goal.returns-else-is_like-2
returns-else-is_like-2 c =
    no_value_reply c.args.before.now (parts_in c.args.stated) c.args.kind c.requires
    (λ has. true≢false (sym (c.is_like.ensures.1 has) ∙ c.if-is_like.false))
    (λ has. true≢false (sym (c.is_like-else-is_like.ensures.1 has) ∙ c.if-is_like-2.false))
