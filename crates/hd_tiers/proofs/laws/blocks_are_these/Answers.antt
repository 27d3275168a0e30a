use Rattle.hd_tiers.proofs.Basics.{BITS, arith, ◌*◌, ◌+◌}
use Rattle.hd_tiers.proofs.SetMembers.{numbers_same}
use Rattle.hd_tiers.proofs.laws.blocks_are_these.Goals as goal

pub returns : goal.returns
returns c block row low = numbers_same block (BITS * block + row) (omega (arith, low))
