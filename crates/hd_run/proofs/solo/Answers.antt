use Rattle.hd_run.proofs.Basics.{Option, Promise, Request, Worked, false, request_of, solo_of, subst, traits_of}
use Rattle.hd_run.proofs.{CallClaims.asked_promise, CallClaims.refused_promise, WorkCauses.alone_worked, WorkCauses.worked_writable}
use Rattle.hd_run.proofs.solo.Given.{Over}
use Rattle.hd_run.proofs.solo.Goals.{After-work_alone-ending}
use Rattle.hd_run.proofs.solo.Goals as goal

worked : (g : Over) (c : After-work_alone-ending g)
    → Worked g.S.Source.seen (traits_of c.in-Ok.request.mode).manner c.in-Ok.request
    (c.args.source.now, c.work_alone-ending.new.source) c.work_alone-ending.result
worked g c =
    alone_worked g.S.Source.seen c.in-Ok.request (c.args.source.now, c.work_alone-ending.new.source) false
    c.work_alone-ending.result c.in-Ok.ensures.alone c.work_alone-ending.ensures

pub report-requires : goal.report-requires
report-requires g c =
    rw c.output-output.ensures (worked_writable g.S.Source.seen c.in-Ok.request
    (c.args.source.now, c.work_alone-ending.new.source) c.work_alone-ending.result
    (worked g (goal.at.report-requires g c).After-work_alone-ending))

pub returns-in-Ok : goal.returns-in-Ok
returns-in-Ok g c =
    subst (λ (asked : Option Request). Promise g.S.Source.seen g.K.Sink.seen asked
    (c.args.source.now, c.work_alone-ending.new.source) (c.args.sink.now, c.report.new.sink) c.report.result)
    c.in-Ok.ensures.value
    (asked_promise g.S.Source.seen g.K.Sink.seen (c.args.source.now, c.work_alone-ending.new.source)
    (c.args.sink.now, c.report.new.sink) c.report.result c.in-Ok.request c.work_alone-ending.result
    (worked g (goal.at.returns-in-Ok g c).After-work_alone-ending)
    (rw c.output-output.ensures at c.report.ensures))

pub returns-in-Err : goal.returns-in-Err
returns-in-Err g c =
    refused_promise g.S.Source.seen g.K.Sink.seen (solo_of (request_of c.args.words.now)) c.args.source.now
    (c.args.sink.now, c.refuse.new.sink) c.in-Err.fault c.refuse.result c.in-Err.ensures.fault
    c.refuse.ensures
