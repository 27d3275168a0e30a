use Rattle.hd_model.proofs.HandleParts.{freed_is_not_live}
use Rattle.hd_laws.proofs.laws.freed_is_not_live.Goals as goal

pub returns : goal.returns
returns c = freed_is_not_live
