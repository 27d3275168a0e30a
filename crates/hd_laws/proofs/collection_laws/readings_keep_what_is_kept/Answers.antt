use Rattle.hd_model.proofs.CollectionLaws.{readings_keep_what_is_kept}
use Rattle.hd_laws.proofs.collection_laws.readings_keep_what_is_kept.Goals as goal

pub returns : goal.returns
returns c = readings_keep_what_is_kept
