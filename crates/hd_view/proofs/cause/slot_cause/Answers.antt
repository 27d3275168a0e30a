use Rattle.std.proofs.Common.{sym, ◌∙◌, true≢false}
use Rattle.hd_view.specs.Inside.{parts_in}
use Rattle.hd_view.proofs.RowCauses.{none_given, not_done}
use Rattle.hd_view.proofs.cause.slot_cause.Goals as goal

pub returns-then-not-is_like : goal.returns-then-not-is_like
returns-then-not-is_like c =
    not_done c.args.before.now (parts_in c.args.stated) c.args.kind c.requires
    (λ has. true≢false (sym (c.is_like.ensures.1 has) ∙ c.if-not-is_like.true))

pub returns-then-may_give : goal.returns-then-may_give
returns-then-may_give c =
    c.done_cause.ensures (record {
      next = c.requires;
      like = c.is_like.ensures.0 c.if-not-is_like.false;
      some = c.may_give.ensures.0 c.if-may_give.true;
    })

pub returns-else-may_give : goal.returns-else-may_give
returns-else-may_give c =
    c.full_cause.ensures
    (none_given c.args.before.now (parts_in c.args.stated) c.args.kind c.requires
    (λ some. true≢false (sym (c.may_give.ensures.1 some) ∙ c.if-may_give.false))) c.requires.due
