use Rattle.hd_model.proofs.CollectionLaws.{older_objects_stay}
use Rattle.hd_laws.proofs.collection_laws.older_objects_stay.Goals as goal

pub returns : goal.returns
returns c = older_objects_stay
