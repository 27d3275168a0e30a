use Rattle.std.proofs.Common.{sym, ap, ◌∙◌, true≢false}
use Rattle.hd_model.specs.declared.data.Entry.{Entry}
use Rattle.hd_view.proofs.CauseFacts.{only_like, only_unlike}
use Rattle.hd_view.proofs.cause.entry_cause.Goals as goal

pub marks_cause-requires : goal.marks_cause-requires
marks_cause-requires c = only_like _ _ c.args.entry c.requires (c.is_like.ensures.0 c.if-is_like.true)

pub returns-in-Place : goal.returns-in-Place
returns-in-Place c = λ line is wrong. (
  only_unlike _ _ c.args.entry c.requires
      (λ like. true≢false (sym (c.is_like.ensures.1 like) ∙ c.if-is_like.false)),
  λ e may. ap (λ (x : Entry). x.reply) (c.requires.only e may) ∙ c.in-Place.is,
)

pub returns-in_default : goal.returns-in_default
returns-in_default c = λ line is wrong.
    only_unlike _ _ c.args.entry c.requires
    (λ like. true≢false (sym (c.is_like.ensures.1 like) ∙ c.if-is_like.false))
