use Rattle.hd_tiers.proofs.Basics.{ap, arith, length, length-replicate, ℕ}
use Rattle.hd_tiers.proofs.MaskMembers.{opened}
use Rattle.hd_tiers.proofs.masks.MasksNumbers.open.Goals as goal

pub invariant_of-result : goal.invariant_of-result
invariant_of-result c =
    omega (arith, c.requires, ap length c.in_ok-masks.ensures, length-replicate {A = ℕ} c.args.blocks 0)

pub returns : goal.returns
returns c = opened c.in_ok-masks.masks.items c.args.blocks c.in_ok-masks.ensures
