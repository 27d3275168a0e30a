use Rattle.hd_tiers.proofs.Basics.{NumberSet, ap, arith, refl}
use Rattle.hd_tiers.proofs.TierMembers.{along, kept_by, none_by, removed_at, removed_more}
use Rattle.hd_tiers.proofs.tier.TierNumbers.remove.Goals as goal

pub remove-requires : goal.remove-requires
remove-requires g c =
    omega (arith, c.requires, c.self.invariant.wide, ap (λ (s : NumberSet). s.room) c.self.view_is)

pub invariant_of-self : goal.invariant_of-self
invariant_of-self g c =
    along c.remove_last.ensures.value refl
    (removed_at c.self.invariant c.args.i _ c.remove.ensures (omega arith)
    (none_by _ _ c.args.i c.remove_last.ensures.value (c.remove_last.ensures.none c.if-remove_last.true)))

pub invariant_of-self-else-remove_last : goal.invariant_of-self-else-remove_last
invariant_of-self-else-remove_last g c =
    along c.remove_last.ensures.value refl
    (removed_more c.self.invariant c.args.i
    (kept_by _ _ c.args.i c.remove_last.ensures.value (c.remove_last.ensures.kept c.if-remove_last.false)))
