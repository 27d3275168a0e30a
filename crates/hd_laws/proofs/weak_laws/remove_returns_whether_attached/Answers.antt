use Rattle.hd_laws.proofs.AttachedValues.{remove_returns_whether_attached}
use Rattle.hd_laws.proofs.weak_laws.remove_returns_whether_attached.Goals as goal

pub returns : goal.returns
returns c = remove_returns_whether_attached
