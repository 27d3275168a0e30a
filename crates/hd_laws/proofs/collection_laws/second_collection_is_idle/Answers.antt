use Rattle.hd_model.proofs.CollectionLaws.{second_collection_is_idle}
use Rattle.hd_laws.proofs.collection_laws.second_collection_is_idle.Goals as goal

pub returns : goal.returns
returns c = second_collection_is_idle
