-- Numbers that are no members, by the words that their masks leave.
use Rattle.hd_tiers.proofs.Basics.{BITS, FinSet, HasAllBetween, IsGapFrom, List, NumberSet, ap, arith, bit_at, bit_not, cases_lt, contains, eqb-true, false, get_or, inl, inr, length, nat_cmp, refl, sym, true, w64, ℕ, ◌%◌, ◌*◌, ◌+◌, ◌-◌, ◌/◌, ◌<◌, ◌==◌, ◌^◌, ◌∙◌, ◌≡◌, ◌≤◌}
use Rattle.std.proofs.lemmas.Nat.Bits.{bit_at-lt, bit_at-zero, bit_at_not}
use Rattle.hd_mask.proofs.Bits.{bit_at-shr}
use Rattle.hd_tiers.proofs.MaskMembers.{bit_of, none_past, room_is, row_within, seen, set_within}

-- where all are members up to a number, a gap from there on
pub further_gap : (s : FinSet nat_cmp) (from to i : ℕ) → from ≤ to → HasAllBetween s from to → IsGapFrom s to i
    → IsGapFrom s from i
further_gap s from to i le near found = record {
  low = omega (arith, found.low);
  outside = found.outside;
  inside = λ k from_on below. elim (cases_lt k to) [
    | inl before ↦ near k from_on before
    | inr after ↦ found.inside k after below
  ];
}

module _ (masks : List ℕ) (s : NumberSet) (is : seen masks ≡ s) where
  -- what the word of one mask says of its block
  module _ (at mask : ℕ) (read : mask ≡ get_or masks at 0) (fits : mask < 2 ^ 64) where
    no_member : (i : ℕ) → i / BITS ≡ at → bit_at (bit_not w64 mask) (i % BITS) ≡ 1
        → contains s.members i ≡ false
    no_member i e set =
        let known = bit_at_not w64 mask (i % BITS) fits (omega arith) in
        let clear : bit_at mask (i % BITS) ≡ 0 = omega (arith, set, known) in
        bit_of masks s is at mask i read e ∙ ap (λ b. b == 1) clear

    a_member : (i : ℕ) → i / BITS ≡ at → bit_at (bit_not w64 mask) (i % BITS) ≡ 0
        → contains s.members i ≡ true
    a_member i e clear =
        let known = bit_at_not w64 mask (i % BITS) fits (omega arith) in
        let set : bit_at mask (i % BITS) ≡ 1 = omega (arith, clear, known, bit_at-lt mask (i % BITS)) in
        bit_of masks s is at mask i read e ∙ ap (λ b. b == 1) set

    -- a word of 0 adds members alone
    pub all_more : (from : ℕ) → HasAllBetween s.members (BITS * from) (BITS * at) → bit_not w64 mask ≡ 0
        → HasAllBetween s.members (BITS * from) (BITS * (at + 1))
    all_more from all zero k from_on below =
        elim (cases_lt k (BITS * at)) [
          | inl before ↦ all k from_on before
          | inr after ↦ a_member k (omega arith)
              (ap (λ m. bit_at m (k % BITS)) zero ∙ bit_at-zero (k % BITS))
        ]

    -- the lowest set bit, after blocks whose numbers are all members
    module _ {row : ℕ} (low : row < BITS) (set : bit_at (bit_not w64 mask) row ≡ 1)
        (least : (k : ℕ) → k < row → bit_at (bit_not w64 mask) k ≡ 0) where
      pub gap_of : (from : ℕ) → from ≤ at → HasAllBetween s.members (BITS * from) (BITS * at)
          → IsGapFrom s.members (BITS * from) (at * BITS + row)
      gap_of from le all =
          let row_is : (at * BITS + row) % BITS ≡ row = omega arith in
          record {
            low = omega arith;
            outside = no_member (at * BITS + row) (omega arith) (ap (bit_at (bit_not w64 mask)) row_is ∙ set);
            inside = λ k from_on below. elim (cases_lt k (BITS * at)) [
              | inl before ↦ all k from_on before
              | inr after ↦ a_member k (omega arith) (least (k % BITS) (omega arith))
            ];
          }

  -- the first number past the last mask is no member
  pub gap_after : (from last i : ℕ) → BITS * from ≤ s.room → length masks ≤ last
      → HasAllBetween s.members (BITS * from) (BITS * last) → i ≡ length masks * BITS
      → IsGapFrom s.members (BITS * from) i
  gap_after from last i le past all i_is =
      let room = room_is masks s is in
      record {
        low = omega (arith, room);
        outside = none_past masks s is (BITS * length masks) (omega arith) i (omega arith);
        inside = λ k from_on below. all k from_on (omega arith);
      }

  -- the word of the mask of a number, shifted so that the number has the lowest bit
  module _ (from mask : ℕ) (read : mask ≡ get_or masks (from / BITS) 0) (fits : mask < 2 ^ 64) where
    word_beside : (k : ℕ) → from ≤ k → k / BITS ≡ from / BITS
        → bit_at (bit_not w64 mask) (k % BITS) ≡ bit_at (bit_not w64 mask / 2 ^ (from % BITS)) (k - from)
    word_beside k from_on e =
        let row_is : k % BITS ≡ from % BITS + (k - from) = omega arith in
        ap (bit_at (bit_not w64 mask)) row_is ∙ sym (bit_at-shr (bit_not w64 mask) (from % BITS) (k - from))

    module _ (row : ℕ) (set : bit_at (bit_not w64 mask / 2 ^ (from % BITS)) row ≡ 1)
        (least : (k : ℕ) → k < row → bit_at (bit_not w64 mask / 2 ^ (from % BITS)) k ≡ 0) where
      pub gap_low : from % BITS + row < BITS
      gap_low = row_within (bit_not w64 mask) (from % BITS) row (omega arith) set

      pub gap_beside : IsGapFrom s.members from (from + row)
      gap_beside =
          let low : from % BITS + row < BITS = gap_low in
          let row_is : from + row - from ≡ row = omega arith in
          record {
            low = omega arith;
            outside = no_member (from / BITS) mask read fits (from + row) (omega arith)
                (word_beside (from + row) (omega arith) (omega arith)
                ∙ ap (bit_at (bit_not w64 mask / 2 ^ (from % BITS))) row_is ∙ set);
            inside = λ k from_on below. a_member (from / BITS) mask read fits k (omega arith)
                (word_beside k from_on (omega arith) ∙ least (k - from) (omega arith));
          }

    pub all_beside : bit_not w64 mask / 2 ^ (from % BITS) ≡ 0
        → HasAllBetween s.members from (BITS * (from / BITS + 1))
    all_beside zero k from_on below =
        a_member (from / BITS) mask read fits k (omega arith)
        (word_beside k from_on (omega arith) ∙ ap (λ m. bit_at m (k - from)) zero ∙ bit_at-zero (k - from))

    -- and its block is one of the masks'
    pub block_within : bit_not w64 mask / 2 ^ (from % BITS) ≡ 0 → BITS * (from / BITS + 1) ≤ s.room
    block_within zero =
        let one : bit_at mask (from % BITS) ≡ 1 = eqb-true (bit_at mask (from % BITS)) 1
        (sym (bit_of masks s is (from / BITS) mask from read refl)
        ∙ all_beside zero from (omega arith) (omega arith)) in
        omega (arith, set_within masks (from / BITS) mask (from % BITS) read one, room_is masks s is)
