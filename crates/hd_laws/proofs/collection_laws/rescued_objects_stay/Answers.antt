use Rattle.hd_model.proofs.Fates.{rescued_objects_stay}
use Rattle.hd_laws.proofs.collection_laws.rescued_objects_stay.Goals as goal

pub returns : goal.returns
returns c = rescued_objects_stay
