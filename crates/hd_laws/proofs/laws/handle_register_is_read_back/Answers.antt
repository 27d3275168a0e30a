use Rattle.hd_model.proofs.StateReadBack.{handle_register_is_read_back}
use Rattle.hd_laws.proofs.laws.handle_register_is_read_back.Goals as goal

pub returns : goal.returns
returns c = handle_register_is_read_back
