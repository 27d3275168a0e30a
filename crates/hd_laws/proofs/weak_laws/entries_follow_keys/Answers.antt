use Rattle.hd_model.proofs.EntryKeys.{entries_follow_keys}
use Rattle.hd_laws.proofs.weak_laws.entries_follow_keys.Goals as goal

pub returns : goal.returns
returns c = entries_follow_keys
