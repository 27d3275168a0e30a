use Rattle.std.proofs.Common.{arith}
use Rattle.hd_step.proofs.Talks.{begun, found, numbered, over, read_stopped, taken, line_stopped}
use Rattle.hd_step.proofs.session.talk.Goals as goal

pub lines-init : goal.lines-init
lines-init g c =
    let p = c.new-progress.ensures in
    begun (g.W.Words.answers c.args.words.now) (g.W.Words.faults c.args.words.now) c.requires p.caller p.slots
    p.counts p.bad c.open-reader.result c.open-reader.ensures _ _

pub returns-in-Err-clause-stopped : goal.returns-in-Err-clause-stopped
returns-in-Err-clause-stopped g c =
    let e = c.in-Err.ensures in
    read_stopped c.lines.invariant _ e.going c.in-Err.fault c.unread.result c.unread.ensures e.failed e.too_long
    e.memory

pub returns-then-count-eq0-clause-done : goal.returns-then-count-eq0-clause-done
returns-then-count-eq0-clause-done g c =
    let e = c.in-Ok.ensures in
    over (found c.lines.invariant c.find.new.self _ e.filled e.ended e.end) c.in-Ok.count
    c.if-count-eq0.true e.first

pub returns-in-Err-take_line-clause-stopped : goal.returns-in-Err-take_line-clause-stopped
returns-in-Err-take_line-clause-stopped g c =
    let e = c.in-Ok.ensures in
    line_stopped
    (numbered (found c.lines.invariant c.find.new.self _ e.filled e.ended e.end) c.saturating_add.result)
    c.in-Ok.count c.first-line.result.now _ _ _ c.in-Err-take_line.stop e.first (omega arith)
    c.first-line.ensures c.in-Err-take_line.ensures.stopped

pub lines-preserved : goal.lines-preserved
lines-preserved g c =
    let e = c.in-Ok.ensures in
    let done = c.in-Ok-take_line.ensures.done in
    taken
    (numbered (found c.lines.invariant c.find.new.self _ e.filled e.ended e.end) c.saturating_add.result)
    c.in-Ok.count c.first-line.result.now _ _ e.first (omega arith) c.first-line.ensures done.text done.after
    _ done.took c.forget.new.self c.forget.ensures
