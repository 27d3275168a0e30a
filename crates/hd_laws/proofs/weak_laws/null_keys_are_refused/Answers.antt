use Rattle.hd_laws.proofs.AttachedValues.{null_keys_are_refused}
use Rattle.hd_laws.proofs.weak_laws.null_keys_are_refused.Goals as goal

pub returns : goal.returns
returns c = null_keys_are_refused
