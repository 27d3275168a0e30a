use Rattle.std.proofs.Common.{ap, subst, ◌∙◌, ◌≡◌}
use Rattle.std.specs.Prelude.{IfOk}
use Rattle.hd_seen.specs.Seen.{Picture}
use Rattle.hd_show.specs.Show.{show_text}
use Rattle.hd_talk.specs.Machine.{picture_in}
use Rattle.hd_talk.proofs.answers.tables.Goals as goal

pub returns : goal.returns
returns c =
    subst (λ (p : Picture). IfOk c.show_text.result (λ text. text.items ≡ show_text p))
    (c.in_ok-seen.ensures.seen ∙ ap picture_in c.world.ensures) c.show_text.ensures
