use Rattle.hd_model.proofs.StateReadBack.{new_value_is_zero}
use Rattle.hd_laws.proofs.laws.new_value_is_zero.Goals as goal

pub returns : goal.returns
returns c = new_value_is_zero
