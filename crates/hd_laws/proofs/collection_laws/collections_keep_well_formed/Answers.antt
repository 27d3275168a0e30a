use Rattle.hd_model.proofs.CollectionLaws.{collections_keep_well_formed}
use Rattle.hd_laws.proofs.collection_laws.collections_keep_well_formed.Goals as goal

pub returns : goal.returns
returns c = collections_keep_well_formed
