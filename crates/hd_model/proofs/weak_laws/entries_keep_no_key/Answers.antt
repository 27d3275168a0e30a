use Rattle.hd_model.proofs.EntryKeys.{entries_keep_no_key}
use Rattle.hd_model.proofs.weak_laws.entries_keep_no_key.Goals as goal

pub returns : goal.returns
returns c = entries_keep_no_key
