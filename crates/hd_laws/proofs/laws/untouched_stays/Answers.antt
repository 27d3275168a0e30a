use Rattle.hd_model.proofs.StepFrames.{untouched_stays}
use Rattle.hd_laws.proofs.laws.untouched_stays.Goals as goal

pub returns : goal.returns
returns c = untouched_stays
