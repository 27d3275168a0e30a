use Rattle.hd_model.proofs.StepChains.{run_has_ages}
use Rattle.hd_laws.proofs.laws.runs_have_ages.Goals as goal

pub returns : goal.returns
returns c = run_has_ages
