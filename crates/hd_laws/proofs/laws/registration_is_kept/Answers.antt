use Rattle.hd_laws.proofs.ObjectReadBack.{registration_is_kept}
use Rattle.hd_laws.proofs.laws.registration_is_kept.Goals as goal

pub returns : goal.returns
returns c = registration_is_kept
