use Rattle.hd_model.proofs.StepChains.{aged_run_is_run}
use Rattle.hd_laws.proofs.laws.aged_runs_are_runs.Goals as goal

pub returns : goal.returns
returns c = aged_run_is_run
