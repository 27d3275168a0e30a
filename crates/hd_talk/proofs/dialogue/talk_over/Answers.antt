use Rattle.std.proofs.Common.{false, refl, true}
use Rattle.hd_talk.proofs.TalkEnds.{broke, came}
use Rattle.hd_talk.proofs.dialogue.talk_over.Goals as goal

pub returns-then-is_bad : goal.returns-then-is_bad
returns-then-is_bad g c =
    came refl c.in-Ok.is_bad c.in-Ok.ensures.done true c.if-is_bad.true

pub returns-else-is_bad : goal.returns-else-is_bad
returns-else-is_bad g c =
    came refl c.in-Ok.is_bad c.in-Ok.ensures.done false c.if-is_bad.false

pub returns-in-Err : goal.returns-in-Err
returns-in-Err g c =
    broke refl c.in-Err.stop c.in-Err.ensures.stopped c.status_of.result c.status_of.ensures
