use Rattle.hd_model.proofs.OneState.{one_state_after}
use Rattle.hd_laws.proofs.laws.one_state_after.Goals as goal

pub returns : goal.returns
returns c = one_state_after
