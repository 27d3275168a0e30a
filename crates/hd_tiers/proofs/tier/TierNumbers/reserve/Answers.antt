use Rattle.hd_tiers.proofs.Basics.{refl}
use Rattle.hd_tiers.proofs.TierMembers.{along, reserved}
use Rattle.hd_tiers.proofs.tier.TierNumbers.reserve.Goals as goal

pub invariant_of-self : goal.invariant_of-self
invariant_of-self g c = along refl c.in_err-reserve.ensures c.self.invariant

pub invariant_of-self-2 : goal.invariant_of-self-2
invariant_of-self-2 g c =
    reserved c.reserve-2.result _ _ _ _ _ c.reserve-2.ensures c.in_ok-reserve.ensures c.self.invariant
