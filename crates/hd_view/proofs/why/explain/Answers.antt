use Rattle.hd_view.proofs.WhyClaims.{promised}
use Rattle.hd_view.proofs.why.explain.Goals as goal

pub returns : goal.returns
returns g c =
    promised c.args.limits.now (g.S.Source.seen c.args.source.now) (g.S.Source.seen c.judge-found.new.source)
    (g.K.Sink.seen c.args.out.now) (g.K.Sink.seen c.report.new.out) c.report.result c.judge-found.result
    c.judge-found.ensures c.report.ensures
