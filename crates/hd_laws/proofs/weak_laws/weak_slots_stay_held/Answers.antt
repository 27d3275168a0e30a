use Rattle.hd_laws.proofs.WeakSlotUse.{weak_slots_stay_held}
use Rattle.hd_laws.proofs.weak_laws.weak_slots_stay_held.Goals as goal

pub returns : goal.returns
returns c = weak_slots_stay_held
