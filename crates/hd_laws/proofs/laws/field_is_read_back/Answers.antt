use Rattle.hd_model.proofs.StateReadBack.{field_is_read_back}
use Rattle.hd_laws.proofs.laws.field_is_read_back.Goals as goal

pub returns : goal.returns
returns c = field_is_read_back
