-- The number of set bits of a mask.
use Rattle.hd_mask.proofs.Basics.{ap, arith, bit_and, bit_at, bit_not, bit_or, ones_step, pow-suc, refl, suc, sym, w64, zero, ℕ, ◌%◌, ◌+◌, ◌-◌, ◌/◌, ◌<◌, ◌^◌, ◌∙◌, ◌≡◌}
use Rattle.std.specs.{Int.RustNames.count_ones, Int.Bits.and_step, Int.Bits.or_step}
use Rattle.hd_mask.proofs.Bits.{or_from_parts, apart_from_parts, and_bit_zero, least_bit, lowest_parts}

-- ---- two masks

ones_or_and_below : (d a b : ℕ) → a < 2 ^ d → b < 2 ^ d
    → count_ones (bit_or a b) + count_ones (bit_and a b) ≡ count_ones a + count_ones b
ones_or_and_below zero a b p q =
    let none : a ≡ 0 = omega arith in
    let none' : b ≡ 0 = omega arith in
    (λ i. count_ones (bit_or (none i) (none' i)) + count_ones (bit_and (none i) (none' i)))
    ∙ (λ i. count_ones (sym none i) + count_ones (sym none' i))
ones_or_and_below (suc d) a b p q =
    let small : a / 2 < 2 ^ d = omega (arith, pow-suc 2 d) in
    let small' : b / 2 < 2 ^ d = omega (arith, pow-suc 2 d) in
    let or_half : bit_or a b / 2 ≡ bit_or (a / 2) (b / 2) = omega (arith, or_step a b) in
    let and_half : bit_and a b / 2 ≡ bit_and (a / 2) (b / 2) = omega (arith, and_step a b) in
    let or_ones = ones_step (bit_or a b) ∙ ap (λ x. bit_or a b % 2 + count_ones x) or_half in
    let and_ones = ones_step (bit_and a b) ∙ ap (λ x. bit_and a b % 2 + count_ones x) and_half in
    let rest = ones_or_and_below d (a / 2) (b / 2) small small' in
    omega (arith, or_step a b, and_step a b, ones_step a, ones_step b, or_ones, and_ones, rest)

below_pow : (n : ℕ) → n < 2 ^ n
below_pow zero = omega arith
below_pow (suc n) = omega (arith, below_pow n, pow-suc 2 n)

-- the set bits of `a | b` and of `a & b` are as many as those of a and of b
pub ones_or_and : (a b : ℕ) → count_ones (bit_or a b) + count_ones (bit_and a b) ≡ count_ones a + count_ones b
ones_or_and a b =
    let small = below_pow (a + b) in
    ones_or_and_below (a + b) a b (omega (arith, small)) (omega (arith, small))

pub ones-zero : count_ones 0 ≡ 0
unfolding count_ones
ones-zero = refl

pub ones-or_apart : (a b : ℕ) → bit_and a b ≡ 0 → count_ones (bit_or a b) ≡ count_ones a + count_ones b
ones-or_apart a b apart = omega (arith, ones_or_and a b, ap count_ones apart, ones-zero)

-- two masks that split a third have together as many set bits
pub ones_from_parts : (m a b : ℕ) → ((i : ℕ) → bit_at m i ≡ bit_at a i + bit_at b i)
    → count_ones m ≡ count_ones a + count_ones b
ones_from_parts m a b parts =
    ap count_ones (or_from_parts m a b parts) ∙ ones-or_apart a b (apart_from_parts m a b parts)

-- ---- one bit

pub ones-pow : (k : ℕ) → count_ones (2 ^ k) ≡ 1
unfolding count_ones
ones-pow zero = refl
ones-pow (suc k) =
    let half : 2 ^ suc k / 2 ≡ 2 ^ k = omega (arith, pow-suc 2 k) in
    omega (arith, ones_step (2 ^ suc k), pow-suc 2 k, ap count_ones half, ones-pow k)

-- so does `n & (n - 1)`, which clears the lowest
pub ones-without_lowest : (n : ℕ) → 0 < n → n < 2 ^ 64 → count_ones (bit_and n (n - 1)) + 1 ≡ count_ones n
ones-without_lowest n some fits =
    let h = least_bit n some fits in
    omega (arith, ones_from_parts n (2 ^ h.0) _ (lowest_parts n h.0 h.2 h.3), ones-pow h.0)
