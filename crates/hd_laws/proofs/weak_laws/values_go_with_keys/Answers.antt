use Rattle.hd_model.proofs.EntryKeys.{values_go_with_keys}
use Rattle.hd_laws.proofs.weak_laws.values_go_with_keys.Goals as goal

pub returns : goal.returns
returns c = values_go_with_keys
