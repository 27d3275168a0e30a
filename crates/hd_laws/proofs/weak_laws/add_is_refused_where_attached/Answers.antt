use Rattle.hd_laws.proofs.AttachedValues.{add_is_refused_where_attached}
use Rattle.hd_laws.proofs.weak_laws.add_is_refused_where_attached.Goals as goal

pub returns : goal.returns
returns c = add_is_refused_where_attached
