use Rattle.hd_model.proofs.Fates.{objects_are_resurrected_once}
use Rattle.hd_laws.proofs.collection_laws.objects_are_resurrected_once.Goals as goal

pub returns : goal.returns
returns c = objects_are_resurrected_once
