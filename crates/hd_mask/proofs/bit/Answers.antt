-- The word `1 << i` is a power of two, which has no bit but its own.
use Rattle.hd_mask.proofs.Basics.{BITS, ap, bit_at, bit_at-pow_other, one_shl, set_bits, ◌∙◌}
use Rattle.hd_mask.proofs.SetBits.{set_bits-pow}
use Rattle.hd_mask.proofs.bit.Goals as goal

pub returns-clause-alone : goal.returns-clause-alone
returns-clause-alone c =
    ap set_bits (one_shl c.args.i BITS c.requires) ∙ set_bits-pow c.args.i c.requires

pub returns-clause-others : goal.returns-clause-others
returns-clause-others c k apart =
    ap (λ w. bit_at w k) (one_shl c.args.i BITS c.requires) ∙ bit_at-pow_other c.args.i k apart
