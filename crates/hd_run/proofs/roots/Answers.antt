use Rattle.hd_run.proofs.Basics.{Option, Promise, Request, Worked, false, listing_of, request_of, subst, traits_of, true}
use Rattle.hd_run.proofs.{CallClaims.asked_promise, CallClaims.refused_promise}
use Rattle.hd_run.proofs.WorkCauses.{alone_worked, listed_worked, worked_writable}
use Rattle.hd_run.proofs.roots.Given.{Over}
use Rattle.hd_run.proofs.roots.Goals.{After-list_roots-ending}
use Rattle.hd_run.proofs.roots.Goals as goal

worked : (g : Over) (c : After-list_roots-ending g)
    → Worked g.S.Source.seen (traits_of c.in-Ok.request.mode).manner c.in-Ok.request
    (c.args.source.now, c.work_alone.new.source) c.list_roots-ending.result
worked g c =
    alone_worked g.S.Source.seen c.in-Ok.request (c.args.source.now, c.work_alone.new.source) true
    c.list_roots-ending.result c.in-Ok.ensures.alone
    (listed_worked g.S.Source.seen c.in-Ok.request (c.args.source.now, c.work_alone.new.source) false
    c.work_alone.result c.list_roots-ending.result c.work_alone.ensures c.list_roots-ending.ensures)

pub report-requires : goal.report-requires
report-requires g c =
    rw c.output-output.ensures (worked_writable g.S.Source.seen c.in-Ok.request
    (c.args.source.now, c.work_alone.new.source) c.list_roots-ending.result
    (worked g (goal.at.report-requires g c).After-list_roots-ending))

pub returns-in-Ok : goal.returns-in-Ok
returns-in-Ok g c =
    subst (λ (asked : Option Request). Promise g.S.Source.seen g.K.Sink.seen asked
    (c.args.source.now, c.work_alone.new.source) (c.args.sink.now, c.report.new.sink) c.report.result)
    c.in-Ok.ensures.value
    (asked_promise g.S.Source.seen g.K.Sink.seen (c.args.source.now, c.work_alone.new.source)
    (c.args.sink.now, c.report.new.sink) c.report.result c.in-Ok.request c.list_roots-ending.result
    (worked g (goal.at.returns-in-Ok g c).After-list_roots-ending)
    (rw c.output-output.ensures at c.report.ensures))

pub returns-in-Err : goal.returns-in-Err
returns-in-Err g c =
    refused_promise g.S.Source.seen g.K.Sink.seen (listing_of (request_of c.args.words.now)) c.args.source.now
    (c.args.sink.now, c.refuse.new.sink) c.in-Err.fault c.refuse.result c.in-Err.ensures.fault
    c.refuse.ensures
