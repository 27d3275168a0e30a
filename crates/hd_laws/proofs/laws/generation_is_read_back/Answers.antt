use Rattle.hd_laws.proofs.ObjectReadBack.{generation_is_read_back}
use Rattle.hd_laws.proofs.laws.generation_is_read_back.Goals as goal

pub returns : goal.returns
returns c = generation_is_read_back
