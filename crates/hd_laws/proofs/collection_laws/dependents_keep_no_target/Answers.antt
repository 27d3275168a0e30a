use Rattle.hd_model.proofs.DependentTargets.{dependents_keep_no_target}
use Rattle.hd_laws.proofs.collection_laws.dependents_keep_no_target.Goals as goal

pub returns : goal.returns
returns c = dependents_keep_no_target
