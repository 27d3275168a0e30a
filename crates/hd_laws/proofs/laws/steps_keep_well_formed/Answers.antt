use Rattle.hd_model.proofs.WellFormedSteps.{step_keeps}
use Rattle.hd_laws.proofs.laws.steps_keep_well_formed.Goals as goal

pub returns : goal.returns
returns c = step_keeps
