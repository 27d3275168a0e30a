use Rattle.std.proofs.Common.{subst}
use Rattle.hd_model.specs.State.{Numbers}
use Rattle.hd_talk.specs.Talked.{Talked}
use Rattle.hd_talk.proofs.dialogue.talk.Goals as goal

pub returns : goal.returns
returns g c =
    subst (λ (n : Numbers). Talked n (g.S.Source.seen c.args.source.now)
    (g.S.Source.seen c.talk_over.new.source) (g.K.Sink.seen c.args.out.now)
    (g.K.Sink.seen c.talk_over.new.out) c.talk_over.result) c.in-Ok.ensures.numbers
    c.talk_over.ensures
