use Rattle.hd_model.proofs.CollectionLaws.{used_objects_stay}
use Rattle.hd_laws.proofs.collection_laws.used_objects_stay.Goals as goal

pub returns : goal.returns
returns c = used_objects_stay
