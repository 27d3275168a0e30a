use Rattle.hd_run.proofs.Basics.{Option, Request, audit_of, request_of, subst}
use Rattle.hd_run.specs.AuditClaims.{AuditPromise}
use Rattle.hd_run.proofs.AuditClaims.{refused_audit}
use Rattle.hd_run.proofs.audit_mode.Goals as goal

pub returns-in-Ok : goal.returns-in-Ok
returns-in-Ok g c =
    subst (λ (asked : Option Request). AuditPromise g.S.Source.seen g.K.Sink.seen asked
    (c.args.source.now, c.audited.new.source) (c.args.sink.now, c.audited.new.sink) c.audited.result)
    c.in-Ok.ensures.value c.audited.ensures

pub returns-in-Err : goal.returns-in-Err
returns-in-Err g c =
    refused_audit g.S.Source.seen g.K.Sink.seen (audit_of (request_of c.args.words.now)) c.args.source.now
    (c.args.sink.now, c.report_finding.new.sink) c.in-Err.fault c.report_finding.result
    c.in-Err.ensures.fault c.report_finding.ensures
