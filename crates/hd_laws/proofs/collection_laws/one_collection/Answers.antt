use Rattle.hd_model.proofs.Collections.{one_collection}
use Rattle.hd_laws.proofs.collection_laws.one_collection.Goals as goal

pub returns : goal.returns
returns c = one_collection
