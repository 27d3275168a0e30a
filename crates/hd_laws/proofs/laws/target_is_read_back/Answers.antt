use Rattle.hd_model.proofs.HandleParts.{target_is_read_back}
use Rattle.hd_laws.proofs.laws.target_is_read_back.Goals as goal

pub returns : goal.returns
returns c = target_is_read_back
