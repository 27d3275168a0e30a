use Rattle.std.proofs.Common.{subst, sym}
use Rattle.hd_run.specs.Bounds.{Bounds}
use Rattle.hd_talk.specs.Machine.{numbers_with}
use Rattle.hd_talk.specs.Talked.{Talked}
use Rattle.hd_view.specs.Promise.{Promises}
use Rattle.hd_view.specs.declared.request.Task.{Task}
use Rattle.hd_view.proofs.look.Goals as goal

pub returns-in-Step : goal.returns-in-Step
returns-in-Step g c =
    let b : Bounds = c.args.request.now.limits in
    let old = g.S.Source.seen c.args.source.now in
    let new = g.S.Source.seen c.talk.new.source in
    let before = g.K.Sink.seen c.args.out.now in
    let after = g.K.Sink.seen c.talk.new.out in
    subst (λ (t : Task). Promises t b old new before after c.talk.result) (sym c.in-Step.is)
    (subst (λ (l : Bounds). Talked (numbers_with l.heap l.blocks) old new before after c.talk.result)
    c.limits.view_is c.talk.ensures)
