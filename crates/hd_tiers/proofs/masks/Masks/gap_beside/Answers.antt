use Rattle.hd_tiers.proofs.Basics.{arith, refl, ◌<◌, ◌^◌}
use Rattle.hd_tiers.proofs.MaskGaps.{all_beside, block_within, gap_beside, gap_low}
use Rattle.hd_tiers.proofs.Searches.{at_none}
use Rattle.hd_tiers.proofs.masks.Masks.gap_beside.Goals as goal

pub returns-clause-found : goal.returns-clause-found
returns-clause-found c =
    let fits : c.mask_of.result < 2 ^ 64 = omega arith in
    gap_beside c.self.inside.masks.items c.args.self.now c.self.view_is c.args.from c.mask_of.result
    c.mask_of.ensures fits c.in_ok-row.row c.in_ok-row.ensures.set c.in_ok-row.ensures.least

pub returns-in_err-row-clause-none : goal.returns-in_err-row-clause-none
returns-in_err-row-clause-none c =
    let fits : c.mask_of.result < 2 ^ 64 = omega arith in
    at_none c.from_residual.ensures
    (all_beside c.self.inside.masks.items c.args.self.now c.self.view_is c.args.from c.mask_of.result
    c.mask_of.ensures fits (c.in_err-row.ensures.none.0 refl))

pub returns-in_err-row-clause-within : goal.returns-in_err-row-clause-within
returns-in_err-row-clause-within c =
    let fits : c.mask_of.result < 2 ^ 64 = omega arith in
    at_none c.from_residual.ensures
    (block_within c.self.inside.masks.items c.args.self.now c.self.view_is c.args.from c.mask_of.result
    c.mask_of.ensures fits (c.in_err-row.ensures.none.0 refl))

pub overflow_add-result : goal.overflow_add-result
overflow_add-result c =
    let fits : c.mask_of.result < 2 ^ 64 = omega arith in
    omega (
      arith,
      gap_low c.self.inside.masks.items c.args.self.now c.self.view_is c.args.from c.mask_of.result
          c.mask_of.ensures fits c.in_ok-row.row c.in_ok-row.ensures.set c.in_ok-row.ensures.least,
    )
