use Rattle.std.proofs.Common.{ap, sym, ⊎_elim, ◌∙◌, refl, true≢false}
use Rattle.hd_view.specs.Inside.{parts_in}
use Rattle.hd_view.proofs.RowCauses.{back_missing, back_other, back_replied, is_back, no_whole}
use Rattle.hd_view.proofs.cause.back_cause.Goals as goal

pub returns-then-not-any_whole : goal.returns-then-not-any_whole
returns-then-not-any_whole c =
    no_whole c.args.before.now (parts_in c.args.stated) c.args.kind c.requires.next c.requires.like
    (λ whole. true≢false (sym (c.any_whole.ensures.1 whole) ∙ c.if-not-any_whole.true))

pub returns-in-Zero : goal.returns-in-Zero
returns-in-Zero c =
    let k = c.args.before.now in
    let p = parts_in c.args.stated in
    let whole = c.any_whole.ensures.0 c.if-not-any_whole.false in
    back_missing k p c.args.kind c.requires.next c.requires.like
    (back_replied k p c.args.kind c.requires.next c.requires.like whole.0 whole.1) c.in-Zero.is

pub returns-in-One : goal.returns-in-One
returns-in-One c =
    let k = c.args.before.now in
    let p = parts_in c.args.stated in
    let whole = c.any_whole.ensures.0 c.if-not-any_whole.false in
    back_other k p c.args.kind c.requires.next c.requires.like
    (back_replied k p c.args.kind c.requires.next c.requires.like whole.0 whole.1)
    (⊎_elim (λ one. ap is_back one.1) (λ two. ap is_back two.2) c.in-One.is)

pub returns-in-Back : goal.returns-in-Back
returns-in-Back c =
    let k = c.args.before.now in
    let p = parts_in c.args.stated in
    let whole = c.any_whole.ensures.0 c.if-not-any_whole.false in
    c.given_cause.ensures p c.requires.next c.requires.like
    (back_replied k p c.args.kind c.requires.next c.requires.like whole.0 whole.1) refl c.in-Back.is
