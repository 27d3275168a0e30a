use Rattle.hd_run.proofs.JudgedRuns.{whole_runs_judged}
use Rattle.hd_run.proofs.printed.whole_runs_are_judged_runs.Goals as goal

pub returns : goal.returns
returns c = whole_runs_judged
