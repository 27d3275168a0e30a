use Rattle.hd_model.proofs.HandleParts.{strength_is_kept}
use Rattle.hd_laws.proofs.laws.strength_is_kept.Goals as goal

pub returns : goal.returns
returns c = strength_is_kept
