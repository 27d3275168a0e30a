use Rattle.hd_model.proofs.Fates.{garbage_goes}
use Rattle.hd_model.proofs.collection_laws.garbage_goes.Goals as goal

pub returns : goal.returns
returns c = garbage_goes
