use Rattle.hd_model.proofs.CollectionLaws.{none_dangles_after}
use Rattle.hd_model.proofs.collection_laws.none_dangles_after.Goals as goal

pub returns : goal.returns
returns c = none_dangles_after
