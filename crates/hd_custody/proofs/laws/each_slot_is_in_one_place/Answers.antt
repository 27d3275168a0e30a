use Rattle.hd_custody.proofs.SlotPlaces.{each_slot_is_in_one_place}
use Rattle.hd_custody.proofs.laws.each_slot_is_in_one_place.Goals as goal

pub returns : goal.returns
returns g c = each_slot_is_in_one_place g.W.Held
