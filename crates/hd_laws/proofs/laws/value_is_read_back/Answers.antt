use Rattle.hd_model.proofs.StateReadBack.{value_is_read_back}
use Rattle.hd_laws.proofs.laws.value_is_read_back.Goals as goal

pub returns : goal.returns
returns c = value_is_read_back
