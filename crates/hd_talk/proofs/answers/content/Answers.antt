use Rattle.std.proofs.Common.{ap, subst, ◌∙◌, ◌≡◌}
use Rattle.std.specs.Prelude.{IfOk}
use Rattle.hd_seen.specs.Seen.{Picture}
use Rattle.hd_talk.specs.Slots.{slot_text}
use Rattle.hd_talk.specs.Machine.{picture_in}
use Rattle.hd_talk.proofs.answers.content.Goals as goal

pub returns : goal.returns
returns c =
    subst (λ (p : Picture). IfOk c.slot_text.result (λ text. text.items ≡ slot_text p c.args.slot.0))
    (c.in_ok-seen.ensures.seen ∙ ap picture_in c.world.ensures) c.slot_text.ensures
