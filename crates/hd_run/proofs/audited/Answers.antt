use Rattle.hd_run.proofs.Basics.{Some}
use Rattle.hd_run.proofs.AuditClaims.{audit_promise}
use Rattle.hd_run.proofs.audited.Goals as goal

pub returns : goal.returns
returns g c =
    audit_promise g.S.Source.seen g.K.Sink.seen (Some c.args.request) (c.args.source.now, c.judge.new.source)
    (c.args.sink.now, c.report_finding.new.sink) c.report_finding.result c.judge.result c.judge.ensures
    c.report_finding.ensures (λ none. cc)
