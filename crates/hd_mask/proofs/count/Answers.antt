-- The list of the set bits is as long as the count of ones.
use Rattle.hd_mask.proofs.Basics.{arith}
use Rattle.hd_mask.proofs.SetBits.{length-set_bits}
use Rattle.hd_mask.proofs.count.Goals as goal

pub returns-clause-number : goal.returns-clause-number
returns-clause-number c = omega (arith, length-set_bits c.args.mask (omega arith))
