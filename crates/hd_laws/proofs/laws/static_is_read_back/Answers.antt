use Rattle.hd_model.proofs.StateReadBack.{static_is_read_back}
use Rattle.hd_laws.proofs.laws.static_is_read_back.Goals as goal

pub returns : goal.returns
returns c = static_is_read_back
