-- What is left of a mask while its lowest bits are taken away, one by one.
use Rattle.hd_mask.proofs.Basics.{BITS, ap, arith, bit_and, bit_at, bit_at-lt, bit_at-pow_other, bit_at_xor, bit_or, bit_xor, cases_eq, cases_order, drop, inl, inr, length, min, set_bits, sym, take, xor_lt, ℕ, ◌++◌, ◌+◌, ◌-◌, ◌<◌, ◌^◌, ◌∙◌, ◌≡◌, ◌≢◌, ◌≤◌, ◌⊎◌}
use Rattle.std.specs.Int.RustNames.{count_ones}
use Rattle.hd_mask.proofs.Bits.{least_bit, lowest_parts, or_from_parts, apart_from_parts}
use Rattle.hd_mask.proofs.Ones.{ones-without_lowest, ones_from_parts}
use Rattle.hd_mask.proofs.SetBits.{length-set_bits, set_bits_from_parts, front_and_back}

-- `taken` bits of the mask are taken, each of them below each bit that is left
pub record Left (mask left taken : ℕ) : Type 0 where
  pub within : (i : ℕ) → bit_at left i ≤ bit_at mask i
  pub above : (i k : ℕ) → bit_at mask i ≡ 1 → bit_at left i ≡ 0 → bit_at left k ≡ 1 → i < k
  pub number : count_ones left + taken ≡ count_ones mask

-- ---- one round: the lowest bit t that was left is taken too

module _ (mask left taken : ℕ) (before : Left mask left taken)
    (t : ℕ) (least : (k : ℕ) → k < t → bit_at left k ≡ 0)
    (after : ℕ) (parts : (i : ℕ) → bit_at left i ≡ bit_at (2 ^ t) i + bit_at after i) where
  above_after : (i k : ℕ) → (i ≡ t) ⊎ (i ≢ t)
      → bit_at mask i ≡ 1 → bit_at after i ≡ 0 → bit_at after k ≡ 1 → i < k
  above_after i k (inl e) set clear rest = elim (cases_order i k) [
    | inl same ↦ absurd (omega (arith, rest, ap (bit_at after) (sym same), clear))
    | inr (inl lt) ↦ lt
    | inr (inr lt) ↦ absurd (omega (arith, least k (omega arith), parts k, rest))
  ]
  above_after i k (inr apart) set clear rest =
      before.above i k set (omega (arith, parts i, bit_at-pow_other t i apart))
      (omega (arith, parts k, bit_at-lt left k))

pub one_more_taken : (mask left taken : ℕ) → 0 < left → left < 2 ^ 64 → Left mask left taken
    → Left mask (bit_and left (left - 1)) (taken + 1)
one_more_taken mask left taken some fits before =
    let h = least_bit left some fits in
    let parts = lowest_parts left h.0 h.2 h.3 in
    let above = above_after mask left taken before h.0 h.3 (bit_and left (left - 1)) parts in
    record {
      within = λ i. omega (arith, parts i, before.within i);
      above = λ i k. above i k (cases_eq i h.0);
      number = omega (arith, before.number, ones-without_lowest left some fits);
    }

-- ---- what was taken, which is `mask ^ left`

pub record IsTaken (mask left n : ℕ) : Type 0 where
  pub at : (i : ℕ) → bit_at mask i ≡ bit_at (bit_xor mask left) i + bit_at left i
  pub together : mask ≡ bit_or (bit_xor mask left) left
  pub apart : bit_and (bit_xor mask left) left ≡ 0
  pub below : (i k : ℕ) → bit_at (bit_xor mask left) i ≡ 1 → bit_at left k ≡ 1 → i < k
  pub number : count_ones (bit_xor mask left) ≡ min n (count_ones mask)
  pub list : (set_bits (bit_xor mask left) ≡ take n (set_bits mask))
      × (set_bits left ≡ drop n (set_bits mask))

pub taken_parts : (mask left taken n : ℕ) → Left mask left taken → taken ≡ min n (count_ones mask)
    → mask < 2 ^ 64 → left < 2 ^ 64 → IsTaken mask left n
taken_parts mask left taken n done limit fits fits' = record {
  at = at;
  together = or_from_parts mask _ left at;
  apart = apart_from_parts mask _ left at;
  below = below;
  number = number;
  list = (ends.0 ∙ ap (take n) (sym both), ends.1 ∙ ap (drop n) (sym both));
}
  where
    at : (i : ℕ) → bit_at mask i ≡ bit_at (bit_xor mask left) i + bit_at left i
    at i = omega (arith, bit_at_xor mask left i, done.within i, bit_at-lt mask i)

    below : (i k : ℕ) → bit_at (bit_xor mask left) i ≡ 1 → bit_at left k ≡ 1 → i < k
    below i k set rest =
        let was : bit_at mask i ≡ 1 = omega (arith, at i, bit_at-lt mask i) in
        done.above i k was (omega (arith, at i, bit_at-lt mask i)) rest

    number : count_ones (bit_xor mask left) ≡ min n (count_ones mask)
    number = omega (arith, ones_from_parts mask _ left at, done.number, limit)

    both : set_bits mask ≡ set_bits (bit_xor mask left) ++ set_bits left
    both = set_bits_from_parts mask (bit_xor mask left) left at below

    ends : (set_bits (bit_xor mask left) ≡ take n (set_bits (bit_xor mask left) ++ set_bits left))
        × (set_bits left ≡ drop n (set_bits (bit_xor mask left) ++ set_bits left))
    ends = front_and_back n (set_bits (bit_xor mask left)) (set_bits left)
        (length-set_bits (bit_xor mask left) (xor_lt BITS mask left fits fits') ∙ number
        ∙ ap (min n) (sym (length-set_bits mask fits) ∙ ap length both))
