use Rattle.std.proofs.Common.{None}
use Rattle.hd_view.specs.Shown.{AreChains}
use Rattle.hd_view.proofs.ShownClaims.{promised}
use Rattle.hd_view.proofs.shown.show_paths.Goals as goal

pub returns : goal.returns
returns g c =
    promised (AreChains c.args.ids.now) c.args.limits.now None (g.S.Source.seen c.args.source.now)
    (g.S.Source.seen c.chains_of-shown.new.source) (g.K.Sink.seen c.args.out.now)
    (g.K.Sink.seen c.write_shown.new.out) c.chains_of-shown.result (λ v. v.items) c.write_shown.result
    c.chains_of-shown.ensures.shown c.chains_of-shown.ensures.stopped c.write_shown.ensures
