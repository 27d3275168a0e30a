-- The count of trailing zeros is the index of the lowest set bit.
use Rattle.hd_mask.proofs.Basics.{Some, ap, arith, bit_at, bit_at-trailing_zeros, set_bits, slice_get, subst, sym, w64, ℕ, ◌<◌, ◌∙◌, ◌≡◌}
use Rattle.hd_mask.proofs.SetBits.{set_bits-zero, first-set_bits}
use Rattle.hd_mask.proofs.lowest.Goals as goal

pub returns-then-mask-eq0-clause-first : goal.returns-then-mask-eq0-clause-first
returns-then-mask-eq0-clause-first c =
    let zero = ap set_bits c.if-mask-eq0.true ∙ set_bits-zero in
    sym (ap (λ xs. slice_get xs 0) zero)

pub returns-else-mask-eq0-clause-first : goal.returns-else-mask-eq0-clause-first
returns-else-mask-eq0-clause-first c =
    let least = bit_at-trailing_zeros w64 c.args.mask (omega arith) (omega arith) in
    subst (λ t. Some t ≡ slice_get (set_bits c.args.mask) 0) (omega arith)
    (sym (first-set_bits c.args.mask _ least.1 least.2 least.0))

pub returns-else-mask-eq0-clause-set : goal.returns-else-mask-eq0-clause-set
returns-else-mask-eq0-clause-set c =
    let least = bit_at-trailing_zeros w64 c.args.mask (omega arith) (omega arith) in
    subst (λ t. bit_at c.args.mask t ≡ 1) (omega arith) least.1

pub returns-else-mask-eq0-clause-least : goal.returns-else-mask-eq0-clause-least
returns-else-mask-eq0-clause-least c =
    let least = bit_at-trailing_zeros w64 c.args.mask (omega arith) (omega arith) in
    subst (λ t. (k : ℕ) → k < t → bit_at c.args.mask k ≡ 0) (omega arith) least.2
