use Rattle.hd_run.proofs.Basics.{Option, Request, Traits, ap, request_of, subst, sym, ◌∙◌}
use Rattle.hd_run.specs.AuditClaims.{ProgramPromise}
use Rattle.hd_run.proofs.AuditClaims.{judged_program, refused_program, run_program}
use Rattle.hd_run.proofs.{CallClaims.asked_promise, WorkCauses.worked_writable}
use Rattle.hd_run.proofs.top.Goals as goal

pub report-requires : goal.report-requires
report-requires g c =
    rw c.output-output.ensures (worked_writable g.S.Source.seen c.in-Ok.request
    (c.args.source.now, c.work-ending.new.source) c.work-ending.result c.work-ending.ensures)

pub returns-then-traits : goal.returns-then-traits
returns-then-traits g c =
    subst (λ (asked : Option Request). ProgramPromise g.S.Source.seen g.K.Sink.seen asked
    (c.args.source.now, c.audited.new.source) (c.args.sink.now, c.audited.new.sink) c.audited.result)
    c.in-Ok.ensures.value
    (judged_program g.S.Source.seen g.K.Sink.seen c.in-Ok.request (c.args.source.now, c.audited.new.source)
    (c.args.sink.now, c.audited.new.sink) c.audited.result
    (sym (ap (λ (t : Traits). t.judges) c.traits.ensures) ∙ c.if-traits.true) c.audited.ensures)

pub returns-else-traits : goal.returns-else-traits
returns-else-traits g c =
    subst (λ (asked : Option Request). ProgramPromise g.S.Source.seen g.K.Sink.seen asked
    (c.args.source.now, c.work-ending.new.source) (c.args.sink.now, c.report.new.sink) c.report.result)
    c.in-Ok.ensures.value
    (run_program g.S.Source.seen g.K.Sink.seen c.in-Ok.request
    (c.args.source.now, c.work-ending.new.source) (c.args.sink.now, c.report.new.sink) c.report.result
    (sym (ap (λ (t : Traits). t.judges) c.traits.ensures) ∙ c.if-traits.false)
    (asked_promise g.S.Source.seen g.K.Sink.seen (c.args.source.now, c.work-ending.new.source)
    (c.args.sink.now, c.report.new.sink) c.report.result c.in-Ok.request c.work-ending.result
    c.work-ending.ensures (rw c.output-output.ensures at c.report.ensures)))

pub returns-in-Err : goal.returns-in-Err
returns-in-Err g c =
    refused_program g.S.Source.seen g.K.Sink.seen (request_of c.args.words.now) c.args.source.now
    (c.args.sink.now, c.refuse.new.sink) c.in-Err.fault c.refuse.result c.in-Err.ensures.fault
    c.refuse.ensures
