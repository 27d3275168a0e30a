use Rattle.hd_model.proofs.HandleParts.{secondary_is_read_back}
use Rattle.hd_laws.proofs.laws.secondary_is_read_back.Goals as goal

pub returns : goal.returns
returns c = secondary_is_read_back
