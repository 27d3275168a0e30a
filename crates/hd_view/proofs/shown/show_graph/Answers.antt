use Rattle.std.proofs.Common.{None}
use Rattle.hd_view.specs.Shown.{IsGraph}
use Rattle.hd_view.proofs.ShownClaims.{promised}
use Rattle.hd_view.proofs.shown.show_graph.Goals as goal

pub returns : goal.returns
returns g c =
    promised (IsGraph c.args.clusters) c.args.limits.now None (g.S.Source.seen c.args.source.now)
    (g.S.Source.seen c.graph_of-shown.new.source) (g.K.Sink.seen c.args.out.now)
    (g.K.Sink.seen c.write_shown.new.out) c.graph_of-shown.result (λ v. v.items) c.write_shown.result
    c.graph_of-shown.ensures.shown c.graph_of-shown.ensures.stopped c.write_shown.ensures
