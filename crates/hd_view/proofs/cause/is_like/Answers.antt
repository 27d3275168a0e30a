use Rattle.std.proofs.Common.{refl, sym, ◌∙◌, true≢false}
use Rattle.hd_view.specs.Inside.{parts_in}
use Rattle.hd_view.proofs.CauseFacts.{like_place}
use Rattle.hd_view.proofs.cause.is_like.Goals as goal

pub returns-then-not-has_reply : goal.returns-then-not-has_reply
returns-then-not-has_reply c = (
  λ t. absurd (true≢false (sym t)),
  λ like. absurd (true≢false (sym (c.has_reply.ensures.1 like.0) ∙ c.if-not-has_reply.true)),
)

pub returns-in-Place : goal.returns-in-Place
returns-in-Place c =
    like_place (parts_in c.args.stated) c.args.reply c.in-Place.address c.in-Place.is
    (c.has_reply.ensures.0 c.if-not-has_reply.false)

pub returns-in_default : goal.returns-in_default
returns-in_default c = (
  λ _. (c.has_reply.ensures.0 c.if-not-has_reply.false, λ address is. absurd (c.in_default.not-Place address is)),
  λ _. refl,
)
