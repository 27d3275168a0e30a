use Rattle.hd_model.proofs.WellFormedSteps.{run_is_well_formed}
use Rattle.hd_laws.proofs.laws.runs_are_well_formed.Goals as goal

pub returns : goal.returns
returns c = run_is_well_formed
