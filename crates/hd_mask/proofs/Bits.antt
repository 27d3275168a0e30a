-- The bits of a mask: what setting and clearing one bit do to it, and how two masks split a third.
-- The mask of row k alone is `2 ^ k`, which is what `bit` makes, and `!m` is `bit_not w64 m`.
use Rattle.hd_mask.proofs.Basics.{BITS, and_pow, ap, arith, bit_and, bit_at, bit_at-lt, bit_at-pow_other, bit_at-pow_same, bit_at-trailing_zeros, bit_at-zero, bit_at_above, bit_at_and, bit_at_cat_high, bit_at_cat_low, bit_at_not, bit_at_ones_above, bit_at_or, bit_at_xor, bit_not, bit_or, bit_xor, cases_eq, cases_lt, cases_order, inl, inr, min, mod_below, pow_below, pow_pos, same_from_bits, same_from_bits_below, shr-shr, shr_split, suc, sym, w64, zero-mul, ℕ, ◌%◌, ◌*◌, ◌+◌, ◌-◌, ◌/◌, ◌<◌, ◌^◌, ◌↔◌, ◌∙◌, ◌≡◌, ◌≢◌, ◌≤◌, ◌⊎◌}

-- ---- a mask as a whole

pub bits_of_zero : (n i : ℕ) → n ≡ 0 → bit_at n i ≡ 0
bits_of_zero n i e = ap (λ m. bit_at m i) e ∙ bit_at-zero i

-- a mask that is not 0 has a lowest set bit
pub least_bit : (n : ℕ) → 0 < n → n < 2 ^ 64
    → (t : ℕ) × (t < BITS) × (bit_at n t ≡ 1) × ((k : ℕ) → k < t → bit_at n k ≡ 0)
least_bit n some fits = let h = bit_at-trailing_zeros w64 n some fits in (_, h.0, h.1, h.2)

-- `n >> k` has the bits from k on
pub bit_at-shr : (n k i : ℕ) → bit_at (n / 2 ^ k) i ≡ bit_at n (k + i)
bit_at-shr n k i = ap (λ x. x % 2) (shr-shr n k i)

-- `n % 2 ^ k`, which is `n & (2 ^ k - 1)`, has the bits below k
pub bit_at-mod : (n k i : ℕ) → i < k → bit_at (n % 2 ^ k) i ≡ bit_at n i
bit_at-mod n k i lt =
    sym (bit_at_cat_low (n / 2 ^ k) k (n % 2 ^ k) i lt) ∙ ap (λ x. bit_at x i) (shr_split n k)

-- ---- two masks

-- `a & !b` has the bits of a that b lacks
pub without_at : (a b i : ℕ) → a < 2 ^ 64 → b < 2 ^ 64
    → bit_at (bit_and a (bit_not w64 b)) i ≡ bit_at a i - bit_at b i
without_at a b i fits fits' = at (cases_lt i BITS)
  where
    both : bit_at (bit_and a (bit_not w64 b)) i ≡ min (bit_at a i) (bit_at (bit_not w64 b) i)
    both = bit_at_and a (bit_not w64 b) i

    at : (i < BITS) ⊎ (BITS ≤ i) → bit_at (bit_and a (bit_not w64 b)) i ≡ bit_at a i - bit_at b i
    at (inl lt) = omega (arith, both, bit_at_not w64 b i fits' lt, bit_at-lt a i, bit_at-lt b i)
    at (inr le) = omega (arith, both, bit_at_above a BITS i fits le)

-- two masks share no bit exactly where no row is in both
pub apart_at : (a b : ℕ) → bit_and a b ≡ 0 → (i : ℕ) → bit_at a i + bit_at b i ≤ 1
apart_at a b apart i =
    let none : bit_at (bit_and a b) i ≡ 0 = bits_of_zero (bit_and a b) i apart in
    omega (arith, none, bit_at_and a b i, bit_at-lt a i, bit_at-lt b i)

pub apart_from_bits : (a b : ℕ) → ((i : ℕ) → bit_at a i + bit_at b i ≤ 1) → bit_and a b ≡ 0
apart_from_bits a b h =
    same_from_bits _ 0 (λ i. omega (arith, bit_at_and a b i, h i, bit_at-zero i))

-- the bits of two masks that share none
pub or_apart_at : (a b : ℕ) → bit_and a b ≡ 0 → (i : ℕ) → bit_at (bit_or a b) i ≡ bit_at a i + bit_at b i
or_apart_at a b apart i = omega (arith, bit_at_or a b i, apart_at a b apart i)

-- a mask that two masks split, bit by bit
module _ (m a b : ℕ) (parts : (i : ℕ) → bit_at m i ≡ bit_at a i + bit_at b i) where
  pub apart_from_parts : bit_and a b ≡ 0
  apart_from_parts = apart_from_bits a b (λ i. omega (arith, parts i, bit_at-lt m i))

  pub or_from_parts : m ≡ bit_or a b
  or_from_parts = same_from_bits m _ (λ i. parts i ∙ sym (or_apart_at a b apart_from_parts i))

-- ---- one bit

-- two masks are equal that agree at the bit k and at each other
same_at_each : (a b k : ℕ) → bit_at a k ≡ bit_at b k → ((i : ℕ) → i ≢ k → bit_at a i ≡ bit_at b i) → a ≡ b
same_at_each a b k here others = same_from_bits a b (λ i. at i (cases_eq i k))
  where
    at : (i : ℕ) → (i ≡ k) ⊎ (i ≢ k) → bit_at a i ≡ bit_at b i
    at i (inl e) = ap (bit_at a) e ∙ here ∙ ap (bit_at b) (sym e)
    at i (inr apart) = others i apart

module _ (n k : ℕ) where
  -- the tests `n & bit(k) == 0` and `n & bit(k) != 0`
  pub and_bit_zero : (bit_and n (2 ^ k) ≡ 0) ↔ (bit_at n k ≡ 0)
  and_bit_zero = (
    λ e. clear e (cases_lt 0 (bit_at n k)),
    λ e. and_pow n k ∙ ap (λ b. b * 2 ^ k) e ∙ zero-mul (2 ^ k),
  )
    where
      clear : bit_and n (2 ^ k) ≡ 0 → (0 < bit_at n k) ⊎ (bit_at n k ≤ 0) → bit_at n k ≡ 0
      clear e (inl some) =
          let one : bit_at n k ≡ 1 = omega (arith, bit_at-lt n k) in
          absurd (omega (arith, sym e ∙ and_pow n k ∙ ap (λ b. b * 2 ^ k) one, pow_pos k))
      clear e (inr none) = omega arith

  pub and_bit_some : (bit_and n (2 ^ k) ≢ 0) ↔ (bit_at n k ≡ 1)
  and_bit_some = (
    λ some. set some (cases_lt 0 (bit_at n k)),
    λ set zero_of. absurd (omega (arith, and_bit_zero.0 zero_of)),
  )
    where
      set : bit_and n (2 ^ k) ≢ 0 → (0 < bit_at n k) ⊎ (bit_at n k ≤ 0) → bit_at n k ≡ 1
      set some (inl more) = omega (arith, bit_at-lt n k)
      set some (inr none) = absurd (some (and_bit_zero.1 (omega arith)))

  -- ---- `n | bit(k)`

  pub set_same : bit_at (bit_or n (2 ^ k)) k ≡ 1
  set_same = omega (arith, bit_at_or n (2 ^ k) k, bit_at-pow_same k, bit_at-lt n k)

  pub set_other : (i : ℕ) → i ≢ k → bit_at (bit_or n (2 ^ k)) i ≡ bit_at n i
  set_other i apart = omega (arith, bit_at_or n (2 ^ k) i, bit_at-pow_other k i apart)

  -- ---- `n ^ bit(k)`, which sets a clear bit and clears a set one

  pub flip_same : bit_at (bit_xor n (2 ^ k)) k ≡ 1 - bit_at n k
  flip_same = omega (arith, bit_at_xor n (2 ^ k) k, bit_at-pow_same k, bit_at-lt n k)

  pub flip_other : (i : ℕ) → i ≢ k → bit_at (bit_xor n (2 ^ k)) i ≡ bit_at n i
  flip_other i apart =
      omega (arith, bit_at_xor n (2 ^ k) i, bit_at-pow_other k i apart, bit_at-lt n i)

  pub flip_clear : bit_at n k ≡ 0 → bit_xor n (2 ^ k) ≡ bit_or n (2 ^ k)
  flip_clear clear =
      same_at_each _ _ k (omega (arith, flip_same, set_same))
      (λ i apart. flip_other i apart ∙ sym (set_other i apart))

  -- ---- `n & !bit(k)`

  module _ (fits : n < 2 ^ 64) (within : k < BITS) where
    cleared_at : (i : ℕ) → bit_at (bit_and n (bit_not w64 (2 ^ k))) i ≡ bit_at n i - bit_at (2 ^ k) i
    cleared_at i = without_at n (2 ^ k) i fits (pow_below k BITS within)

    pub clear_same : bit_at (bit_and n (bit_not w64 (2 ^ k))) k ≡ 0
    clear_same = omega (arith, cleared_at k, bit_at-pow_same k, bit_at-lt n k)

    pub clear_other : (i : ℕ) → i ≢ k → bit_at (bit_and n (bit_not w64 (2 ^ k))) i ≡ bit_at n i
    clear_other i apart = omega (arith, cleared_at i, bit_at-pow_other k i apart)

    pub flip_set : bit_at n k ≡ 1 → bit_xor n (2 ^ k) ≡ bit_and n (bit_not w64 (2 ^ k))
    flip_set set =
        same_at_each _ _ k (omega (arith, flip_same, clear_same))
        (λ i apart. flip_other i apart ∙ sym (clear_other i apart))

-- ---- the lowest set bit

-- n without its lowest set bit t is `n & (n - 1)`: below t the number n - 1 has ones where n has zeros
module _ (n t : ℕ) (set : bit_at n t ≡ 1) (least : (i : ℕ) → i < t → bit_at n i ≡ 0) where
  high : ℕ
  high = n / 2 ^ suc t

  low_is : n % 2 ^ suc t ≡ 2 ^ t
  low_is =
      same_from_bits_below (suc t) _ _ (mod_below n (2 ^ suc t) (pow_pos (suc t)))
      (pow_below t (suc t) (omega arith)) (λ i lt. bit_at-mod n (suc t) i lt ∙ at i lt (cases_eq i t))
    where
      at : (i : ℕ) → i < suc t → (i ≡ t) ⊎ (i ≢ t) → bit_at n i ≡ bit_at (2 ^ t) i
      at i lt (inl e) =
          ap (bit_at n) e ∙ set ∙ sym (bit_at-pow_same t) ∙ ap (bit_at (2 ^ t)) (sym e)
      at i lt (inr apart) = least i (omega arith) ∙ sym (bit_at-pow_other t i apart)

  word_is : n ≡ high * 2 ^ suc t + 2 ^ t
  unfolding high
  word_is = omega (arith, shr_split n (suc t), low_is)

  less_is : n - 1 ≡ high * 2 ^ suc t + (2 ^ t - 1)
  less_is = omega (arith, word_is, pow_pos t)

  less_at : bit_at (n - 1) t ≡ 0
  less_at =
      ap (λ x. bit_at x t) less_is ∙ bit_at_cat_low high (suc t) (2 ^ t - 1) t (omega arith)
      ∙ bit_at_ones_above t t (omega arith)

  less_above : (i : ℕ) → t < i → bit_at (n - 1) i ≡ bit_at n i
  less_above i lt =
      let more : 2 ^ t < 2 ^ suc t = pow_below t (suc t) (omega arith) in
      ap (λ x. bit_at x i) less_is
      ∙ bit_at_cat_high high (suc t) (2 ^ t - 1) i (omega arith) lt
      ∙ sym (bit_at_cat_high high (suc t) (2 ^ t) i more lt)
      ∙ ap (λ x. bit_at x i) (sym word_is)

  pub lowest_parts : (i : ℕ) → bit_at n i ≡ bit_at (2 ^ t) i + bit_at (bit_and n (n - 1)) i
  lowest_parts i = at (cases_order i t)
    where
      both : bit_at (bit_and n (n - 1)) i ≡ min (bit_at n i) (bit_at (n - 1) i)
      both = bit_at_and n (n - 1) i

      at : (i ≡ t) ⊎ ((i < t) ⊎ (t < i)) → bit_at n i ≡ bit_at (2 ^ t) i + bit_at (bit_and n (n - 1)) i
      at (inl e) =
          let here = ap (bit_at n) e ∙ set in
          let less = ap (bit_at (n - 1)) e ∙ less_at in
          let own = ap (bit_at (2 ^ t)) e ∙ bit_at-pow_same t in
          omega (arith, both, here, less, own)
      at (inr (inl lt)) =
          let other : i ≢ t = omega arith in
          omega (arith, both, least i lt, bit_at-pow_other t i other)
      at (inr (inr lt)) =
          let other : i ≢ t = omega arith in
          omega (arith, both, less_above i lt, bit_at-pow_other t i other)

-- for `grind`: what setting, clearing and testing bits do
pub ruleset mask_bits = (
  set_same,
  set_other,
  clear_same,
  clear_other,
  flip_set,
  flip_clear,
  and_bit_zero,
  and_bit_some,
  or_apart_at,
  bits_of_zero,
)
