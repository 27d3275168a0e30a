use Rattle.std.proofs.Common.{◌+◌, length}
use Rattle.hd_step.proofs.Talks.{IsTalking}
use Rattle.hd_step.proofs.session.talk.Given as goal

-- the lines so far were done, and what was read behind them is at hand
abbrev pub invariant-lines : goal.invariant-lines
invariant-lines g l =
    IsTalking (g.W.Words.answers l.words) (g.W.Words.faults l.words) (g.M.Machine.seen l.fn.machine).numbers
    l.reader (g.M.Machine.seen l.machine) l.progress (g.S.Source.seen l.fn.source) (g.S.Source.seen l.source) (g.K.Sink.seen l.fn.out) (g.K.Sink.seen l.out)

abbrev pub decreases-lines : goal.decreases-lines
decreases-lines g l = l.reader.room + length l.reader.bytes
