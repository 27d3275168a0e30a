use Rattle.hd_model.proofs.StateReadBack.{board_is_read_back}
use Rattle.hd_laws.proofs.laws.board_is_read_back.Goals as goal

pub returns : goal.returns
returns c = board_is_read_back
