use Rattle.hd_tiers.proofs.Basics.{NumberSet, ap, arith, refl}
use Rattle.hd_tiers.proofs.TierMembers.{along, inserted_at, inserted_more}
use Rattle.hd_tiers.proofs.tier.TierNumbers.insert.Goals as goal

pub insert-requires : goal.insert-requires
insert-requires g c =
    omega (arith, c.requires, c.self.invariant.wide, ap (λ (s : NumberSet). s.room) c.self.view_is)

pub invariant_of-self : goal.invariant_of-self
invariant_of-self g c =
    along c.add-added.ensures.value refl (inserted_at c.self.invariant c.args.i _ c.insert.ensures (omega arith))

pub invariant_of-self-else-added : goal.invariant_of-self-else-added
invariant_of-self-else-added g c =
    along c.add-added.ensures.value refl
    (inserted_more c.self.invariant c.args.i (c.add-added.ensures.more c.if-added.false))
