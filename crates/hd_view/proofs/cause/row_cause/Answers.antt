use Rattle.std.proofs.Common.{subst, sym, ◌∙◌, true≢false}
use Rattle.std.proofs.lemmas.Option.{none-some, same_Some}
use Rattle.hd_model.specs.declared.data.Entry.{Entry}
use Rattle.hd_view.specs.Cause.{IsLike}
use Rattle.hd_view.specs.Inside.{parts_in}
use Rattle.hd_view.proofs.cause.row_cause.Goals as goal

pub slot_cause-requires : goal.slot_cause-requires
slot_cause-requires c = c.requires.other (λ entry some has. none-some entry (sym c.in_default.is ∙ some))

pub marks_cause-requires : goal.marks_cause-requires
marks_cause-requires c = c.requires.like c.in-Some.entry c.in-Some.is (c.is_like.ensures.0 c.if-is_like.true)

pub slot_cause-requires-else-is_like : goal.slot_cause-requires-else-is_like
slot_cause-requires-else-is_like c =
    c.requires.other
    (λ entry some has.
    let same = same_Some entry c.in-Some.entry (sym some ∙ c.in-Some.is) in
    true≢false (sym (c.is_like.ensures.1
    (subst (λ (e : Entry). IsLike (parts_in c.args.stated) e.reply) same has)) ∙ c.if-is_like.false))
