use Rattle.hd_laws.proofs.AttachedValues.{find_returns_what_is_attached}
use Rattle.hd_laws.proofs.weak_laws.find_returns_what_is_attached.Goals as goal

pub returns : goal.returns
returns c = find_returns_what_is_attached
