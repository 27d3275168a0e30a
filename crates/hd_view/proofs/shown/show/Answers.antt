use Rattle.hd_view.specs.Shown.{AreTables}
use Rattle.hd_view.proofs.ShownClaims.{promised}
use Rattle.hd_view.proofs.shown.show.Goals as goal

pub returns : goal.returns
returns g c =
    promised AreTables c.args.limits.now c.args.line (g.S.Source.seen c.args.source.now)
    (g.S.Source.seen c.tables_of-shown.new.source) (g.K.Sink.seen c.args.out.now)
    (g.K.Sink.seen c.write_shown.new.out) c.tables_of-shown.result (λ v. v.items) c.write_shown.result
    c.tables_of-shown.ensures.shown c.tables_of-shown.ensures.stopped c.write_shown.ensures
