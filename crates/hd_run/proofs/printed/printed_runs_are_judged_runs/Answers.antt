use Rattle.hd_run.proofs.JudgedRuns.{printed_runs_judged}
use Rattle.hd_run.proofs.printed.printed_runs_are_judged_runs.Goals as goal

pub returns : goal.returns
returns g c = printed_runs_judged g.S.Source.seen g.K.Sink.seen
