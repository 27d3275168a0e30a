use Rattle.hd_model.proofs.StateReadBack.{register_is_read_back}
use Rattle.hd_laws.proofs.laws.register_is_read_back.Goals as goal

pub returns : goal.returns
returns c = register_is_read_back
