use Rattle.hd_model.proofs.StateReadBack.{new_field_is_null}
use Rattle.hd_laws.proofs.laws.new_field_is_null.Goals as goal

pub returns : goal.returns
returns c = new_field_is_null
