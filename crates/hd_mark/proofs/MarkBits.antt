-- Bits read as sets of addresses: what a bit more does to them.
use Rattle.hd_mark.proofs.Basics.{Addr, BITS, Bool, FinSet, Gains, IsTable, List, None, Option, REGION, Some, ap, arith, bit_or, cases_eq, cases_lt, contains, contains-empty, contains-insert, empty, false, get_or, get_or-set_other, get_or-set_same, index_of, inl, inr, insert, is_set, is_set_in, length, map, nat_cmp, not, or_cases, or_left, or_right, index_at, refl, same_address, same_set, set, sym, true, ℕ, ⊎_elim, ◌%◌, ◌*◌, ◌+◌, ◌/◌, ◌<◌, ◌==◌, ◌^◌, ◌||◌, ◌∙◌, ◌≡◌, ◌≢◌}
use Rattle.std.proofs.Math.ListN.{get_or-map}
use Rattle.std.proofs.lemmas.Nat.{le_or_l, le_or_r}
use Rattle.std.proofs.lemmas.Nat.Bits.{bit_at-zero}
use Rattle.hd_mark.specs.declared.bits.TheConstants.{WORDS}
use Rattle.std.proofs.lemmas.Grind.{get_or_default_zero}
use Rattle.std.specs.{Int.bit_at, FinMap.nat_cmp-IsAntisymmetric, Cmp.nat_cmp_total}
use Rattle.hd_mask.proofs.Bits.{set_same, set_other}
use Rattle.hd_mark.specs.Fields.{set_of}
use Rattle.hd_heap.proofs.IndexedLists.{tied, untied, contains-indexes_of, get_or-tables}

-- ---- one bit

module _ (words : List ℕ) (i word bit : ℕ) (low : i < BITS * length words)
    (read : word ≡ get_or words (i / BITS) word) (is : bit ≡ 2 ^ (i % BITS)) where
  within : i / BITS < length words
  within = omega (arith, low)

  after : get_or (set words (i / BITS) (bit_or word bit)) (i / BITS) 0 ≡ bit_or word (2 ^ (i % BITS))
  after = get_or-set_same words (i / BITS) (bit_or word bit) 0 within ∙ ap (bit_or word) is

  pub set_here : is_set (set words (i / BITS) (bit_or word bit)) i ≡ true
  set_here = ap (λ w. bit_at w (i % BITS) == 1) after ∙ ap (λ b. b == 1) (set_same word (i % BITS))

  pub set_elsewhere : (k : ℕ) → k ≢ i → is_set (set words (i / BITS) (bit_or word bit)) k ≡ is_set words k
  set_elsewhere k apart = elim (cases_eq (k / BITS) (i / BITS)) [
    | inl e ↦
        ap (λ j. bit_at (get_or (set words (i / BITS) (bit_or word bit)) j 0) (k % BITS) == 1) e
        ∙ ap (λ w. bit_at w (k % BITS) == 1) after
        ∙ ap (λ b. b == 1) (set_other word (i % BITS) (k % BITS) (λ s. apart (omega arith)))
        ∙ ap (λ w. bit_at w (k % BITS) == 1) (read ∙ get_or_default_zero words (i / BITS) word within)
        ∙ ap (λ j. bit_at (get_or words j 0) (k % BITS) == 1) (sym e)
    | inr other ↦ ap (λ w. bit_at w (k % BITS) == 1)
        (get_or-set_other words (i / BITS) (k / BITS) (bit_or word bit) 0 other)
  ]

-- ---- the bits of one region

unset : (words : List ℕ) (i : ℕ) → get_or words (i / BITS) 0 ≡ 0 → is_set words i ≡ false
unset words i zero = ap (λ w. bit_at w (i % BITS) == 1) zero ∙ ap (λ b. b == 1) (bit_at-zero (i % BITS))

-- the words of a region are 0
pub all_unset : (words : List ℕ) (index : ℕ)
    → ((j : ℕ) → j < WORDS → get_or words (WORDS * index + j) 0 ≡ 0) → (k : ℕ) → k < REGION
    → is_set words (index * REGION + k) ≡ false
all_unset words index zeros k low =
    unset words (index * REGION + k)
    (ap (λ j. get_or words j 0)
    (let e : (index * REGION + k) / BITS ≡ WORDS * index + k / BITS = omega arith in e)
    ∙ zeros (k / BITS) (omega arith))

-- a test that does not fail
pub unnegated : (b : Bool) → not b ≡ false → b ≡ true
unnegated true e = refl
unnegated false e = absurd (cc e)

-- one word of all is 0 where all of them together are
or_zero : (a b : ℕ) → bit_or a b ≡ 0 → (a ≡ 0) × (b ≡ 0)
or_zero a b e = (omega (arith, e, le_or_l a b), omega (arith, e, le_or_r a b))

pub four_zero : (words : List ℕ) (first a b c d : ℕ) → a ≡ get_or words first 0
    → b ≡ get_or words (first + 1) 0
    → c ≡ get_or words (first + 2) 0
    → d ≡ get_or words (first + 3) 0 → bit_or (bit_or (bit_or a b) c) d ≡ 0 → (j : ℕ)
    → j < WORDS
    → get_or words (first + j) 0 ≡ 0
four_zero words first a b c d at_a at_b at_c at_d e j low =
    let three = or_zero (bit_or (bit_or a b) c) d e in
    let two = or_zero (bit_or a b) c three.0 in
    let one = or_zero a b two.0 in
    elim (cases_lt j 2) [
      | inl below ↦ elim (cases_eq j 0) [
        | inl is ↦ ap (λ n. get_or words n 0) (let s : first + j ≡ first = omega arith in s) ∙ sym at_a ∙ one.0
        | inr not ↦ ap (λ n. get_or words n 0) (let s : first + j ≡ first + 1 = omega arith in s) ∙ sym at_b
            ∙ one.1
      ]
      | inr above ↦ elim (cases_eq j 2) [
        | inl is ↦ ap (λ n. get_or words n 0) (let s : first + j ≡ first + 2 = omega arith in s) ∙ sym at_c
            ∙ two.1
        | inr not ↦ ap (λ n. get_or words n 0) (let s : first + j ≡ first + 3 = omega arith in s) ∙ sym at_d
            ∙ three.1
      ]
    ]

-- ---- members of sets of numbers

module _ (s : FinSet nat_cmp) (k q : ℕ) where
  insert_here : q ≡ k → contains (insert s k) q ≡ true
  insert_here e = contains-insert nat_cmp_total s k q ∙ ap (λ b. b || contains s q) (tied q k e)

  insert_elsewhere : q ≢ k → contains (insert s k) q ≡ contains s q
  insert_elsewhere apart =
      contains-insert nat_cmp_total s k q ∙ ap (λ b. b || contains s q) (untied q k apart)

-- a set, or what it is without a test, gains an address that is inserted
pub insert_gains : (test : Addr → Bool) (s : FinSet nat_cmp) (a : Addr)
    → Gains a (λ x. test x || contains s x.0) (λ x. test x || contains (insert s a.0) x.0)
insert_gains test s a = record {
  keeps = λ x h. ⊎_elim (or_left (test x) _)
      (λ member. or_right (test x) _ (elim (cases_eq x.0 a.0) [
        | inl e ↦ insert_here s a.0 x.0 e
        | inr apart ↦ insert_elsewhere s a.0 x.0 apart ∙ member
      ])) (or_cases (test x) _ h);
  joins = or_right (test a) _ (insert_here s a.0 a.0 refl);
  only = λ x h. ⊎_elim (λ passes. inl (or_left (test x) _ passes))
      (λ member. elim (cases_eq x.0 a.0) [
        | inl e ↦ inr (same_address x a e)
        | inr apart ↦ inl (or_right (test x) _ (sym (insert_elsewhere s a.0 x.0 apart) ∙ member))
      ]) (or_cases (test x) _ h);
}

same_numbers : (s t : FinSet nat_cmp) → ((q : ℕ) → contains s q ≡ contains t q) → s ≡ t
same_numbers = same_set nat_cmp_total nat_cmp-IsAntisymmetric

-- ---- sets of addresses

contains-set_of : (indexes words : List ℕ) (q : ℕ)
    → contains (set_of indexes words) q ≡ is_set_in words (index_at indexes (q / REGION)) (q % REGION)
unfolding set_of
contains-set_of indexes words q =
    contains-indexes_of _ q
    ∙ get_or-tables REGION (is_set_in words) false (λ k. refl) (map index_of indexes) q (q / REGION)
    (q % REGION) (omega arith) (omega arith)
    ∙ ap (λ o. is_set_in words o (q % REGION)) (get_or-map index_of indexes (q / REGION) 0)

-- where no bit is set, no address is a member
pub set_of_none : (indexes words : List ℕ) → ((i : ℕ) → is_set words i ≡ false) → set_of indexes words ≡ empty
set_of_none indexes words none =
    same_numbers _ _ (λ q.
    contains-set_of indexes words q ∙ in_region (index_at indexes (q / REGION)) (q % REGION)
    ∙ sym (contains-empty nat_cmp q))
  where
    in_region : (o : Option ℕ) (k : ℕ) → is_set_in words o k ≡ false
    in_region None k = refl
    in_region (Some p) k = none (p * REGION + k)

-- the bit of an address in a region with an index
module _ (indexes : List ℕ) (a p : ℕ) (here : index_at indexes (a / REGION) ≡ Some p) {bit : ℕ}
    (is : p * REGION + a % REGION ≡ bit) where
  -- whether it is set says whether the address is a member
  pub bit_read : (words : List ℕ) → is_set words bit ≡ contains (set_of indexes words) a
  bit_read words =
      ap (is_set words) (sym is) ∙ ap (λ o. is_set_in words o (a % REGION)) (sym here)
      ∙ sym (contains-set_of indexes words a)

  -- to set it is to insert the address
  pub bit_joins : {regions : ℕ} (words after : List ℕ) → IsTable indexes regions → is_set after bit ≡ true
      → ((k : ℕ) → k ≢ bit → is_set after k ≡ is_set words k)
      → set_of indexes after ≡ insert (set_of indexes words) a
  bit_joins words after table joins others =
      same_numbers _ _ (λ q.
      elim (cases_eq q a) [
        | inl same ↦
            ap (contains (set_of indexes after)) same ∙ sym (bit_read after) ∙ joins
            ∙ sym (insert_here (set_of indexes words) a q same)
        | inr apart ↦
            contains-set_of indexes after q ∙ elsewhere q apart (index_at indexes (q / REGION)) refl
            ∙ sym (contains-set_of indexes words q) ∙ sym (insert_elsewhere (set_of indexes words) a q apart)
      ])
    where
      elsewhere : (q : ℕ) → q ≢ a → (r : Option ℕ) → index_at indexes (q / REGION) ≡ r
          → is_set_in after r (q % REGION) ≡ is_set_in words r (q % REGION)
      elsewhere q apart None there = refl
      elsewhere q apart (Some r) there = others (r * REGION + q % REGION) (λ e.
          let one : r ≡ p = omega (arith, e, is) in
          let region = table.apart (q / REGION) (a / REGION) r there (here ∙ ap Some (sym one)) in
          apart (omega (arith, e, is, one, region)))
