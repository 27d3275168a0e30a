use Rattle.hd_tiers.proofs.TierMembers.{opened}
use Rattle.hd_tiers.proofs.tier.TierNumbers.open.Goals as goal

pub invariant_of-result : goal.invariant_of-result
invariant_of-result g c = opened _ _ _ c.in_ok-numbers.ensures c.in_ok-marked.ensures
