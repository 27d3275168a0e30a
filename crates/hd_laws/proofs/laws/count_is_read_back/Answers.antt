use Rattle.hd_model.proofs.HandleParts.{count_is_read_back}
use Rattle.hd_laws.proofs.laws.count_is_read_back.Goals as goal

pub returns : goal.returns
returns c = count_is_read_back
