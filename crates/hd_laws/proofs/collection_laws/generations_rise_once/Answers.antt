use Rattle.hd_model.proofs.Fates.{generations_rise_once}
use Rattle.hd_laws.proofs.collection_laws.generations_rise_once.Goals as goal

pub returns : goal.returns
returns c = generations_rise_once
