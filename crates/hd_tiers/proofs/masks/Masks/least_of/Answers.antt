use Rattle.hd_tiers.proofs.Basics.{arith, refl}
use Rattle.hd_tiers.proofs.MaskMembers.{least_of, none_of, set_within}
use Rattle.hd_tiers.proofs.Searches.{at_none}
use Rattle.hd_tiers.proofs.masks.Masks.least_of.Goals as goal

pub returns-clause-found : goal.returns-clause-found
returns-clause-found c =
    least_of c.self.inside.masks.items c.args.self.now c.self.view_is _ _ c.mask_of.ensures
    c.in_ok-row.ensures.within c.in_ok-row.ensures.set c.in_ok-row.ensures.least

pub returns-in_err-row-clause-none : goal.returns-in_err-row-clause-none
returns-in_err-row-clause-none c =
    at_none c.from_residual.ensures
    (none_of c.self.inside.masks.items c.args.self.now c.self.view_is _ _ c.mask_of.ensures
    (c.in_err-row.ensures.none.0 refl))

pub overflow_mul-result : goal.overflow_mul-result
overflow_mul-result c =
    omega (
      arith,
      c.self.invariant,
      set_within c.self.inside.masks.items _ _ _ c.mask_of.ensures c.in_ok-row.ensures.set,
    )

pub overflow_add-result : goal.overflow_add-result
overflow_add-result c =
    omega (
      arith,
      c.self.invariant,
      set_within c.self.inside.masks.items _ _ _ c.mask_of.ensures c.in_ok-row.ensures.set,
      c.in_ok-row.ensures.within,
    )
