use Rattle.hd_model.proofs.Fates.{in_use_is_left_alone}
use Rattle.hd_laws.proofs.collection_laws.in_use_is_left_alone.Goals as goal

pub returns : goal.returns
returns c = in_use_is_left_alone
