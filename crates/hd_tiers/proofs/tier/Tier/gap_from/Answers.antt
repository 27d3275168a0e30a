use Rattle.hd_tiers.proofs.Basics.{IsGapFrom, NumberSet, subst}
use Rattle.hd_tiers.proofs.tier.Tier.gap_from.Goals as goal

pub returns : goal.returns
returns g c =
    subst (λ (s : NumberSet). IsGapFrom s.members c.args.from c.gap_from.result) c.self.view_is
    c.gap_from.ensures
