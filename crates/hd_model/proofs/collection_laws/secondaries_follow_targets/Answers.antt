use Rattle.hd_model.proofs.DependentTargets.{secondaries_follow_targets}
use Rattle.hd_model.proofs.collection_laws.secondaries_follow_targets.Goals as goal

pub returns : goal.returns
returns c = secondaries_follow_targets
