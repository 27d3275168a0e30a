use Rattle.hd_laws.proofs.WeakPair.{finalization_parts_weak_handles}
use Rattle.hd_laws.proofs.collection_laws.finalization_parts_weak_handles.Goals as goal

pub returns : goal.returns
returns c = finalization_parts_weak_handles
