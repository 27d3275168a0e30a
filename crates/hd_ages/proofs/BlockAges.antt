-- The ages of all blocks, four to a block: that of a clump, and what becomes of those of one block.
use Rattle.hd_ages.proofs.Basics.{All, CLUMPS, IsSlotOf, List, [], age_in, ages_at, ages_in, ages_of, ap, arith, bit_at, cases_lt, clump_at, clump_of, clumps_of, cond, drop, filter, get_or, get_or-drop, get_or-take, inl, inr, length, lowered, map, min, nat_le, refl, replicate, set, set_bits, suc, sym, take, with_ages, zero, ℕ, ◌*◌, ◌++◌, ◌+◌, ◌-◌, ◌<◌, ◌^◌, ◌∙◌, ◌∷◌, ◌≡◌, ◌≤◌}
use Rattle.std.proofs.Math.Seq.{take-add}
use Rattle.std.proofs.lemmas.List.{take-append-drop}
use Rattle.hd_ages.proofs.{ClumpBits.set_by_bits, AgeWord.each_clump, AgeWord.age_small}

pub length-ages_of : (ws : List ℕ) → length (ages_of ws) ≡ CLUMPS * length ws
length-ages_of [] = refl
length-ages_of (w ∷ ws) = omega (arith, length-ages_of ws)

-- the ages of the i-th block, and those of all blocks with another word for it
pub ages_of-read : (ws : List ℕ) (i : ℕ) → i < length ws → take CLUMPS (drop (CLUMPS * i) (ages_of ws))
    ≡ ages_in (get_or ws i 0)
ages_of-read [] i lt = absurd (omega arith)
ages_of-read (w ∷ ws) zero lt = refl
ages_of-read (w ∷ ws) (suc i) lt =
    ap (λ n. take CLUMPS (drop n (ages_of (w ∷ ws))))
    (let e : CLUMPS * suc i ≡ suc (suc (suc (suc (CLUMPS * i)))) =
    omega arith in e)
    ∙ ages_of-read ws i (omega arith)

pub ages_of-set : (ws : List ℕ) (i w : ℕ) → i < length ws
    → ages_of (set ws i w) ≡ take (CLUMPS * i) (ages_of ws) ++ ages_in w ++ drop (CLUMPS * i + CLUMPS)
    (ages_of ws)
ages_of-set [] i w lt = absurd (omega arith)
ages_of-set (v ∷ ws) zero w lt = refl
ages_of-set (v ∷ ws) (suc i) w lt =
    ap (λ xs. age_in v 0 ∷ age_in v 1 ∷ age_in v 2 ∷ age_in v 3 ∷ xs) (ages_of-set ws i w (omega arith))
    ∙ (let first : suc (suc (suc (suc (CLUMPS * i)))) ≡ CLUMPS * suc i = omega arith in
    let last : suc (suc (suc (suc (CLUMPS * i + CLUMPS)))) ≡ CLUMPS * suc i + CLUMPS = omega arith in
    λ j. take (first j) (ages_of (v ∷ ws)) ++ ages_in w ++ drop (last j) (ages_of (v ∷ ws)))

-- the same by the block, as the ages of a map are read and written
module _ (ws ages : List ℕ) (seen : ages_of ws ≡ ages) (block : ℕ) (low : 1 ≤ block)
    (high : CLUMPS * block ≤ length ages) where
  pub word_index : block - 1 < length ws
  word_index = omega (arith, low, high, ap length seen, length-ages_of ws)

  first : CLUMPS * (block - 1) ≡ CLUMPS * block - CLUMPS
  first = omega (arith, low)

  pub word_ages : ages_in (get_or ws (block - 1) 0) ≡ ages_at block ages
  word_ages = sym (ages_of-read ws (block - 1) word_index) ∙ (λ i. take CLUMPS (drop (first i) (seen i)))

  pub word_written : (w : ℕ) → ages_of (set ws (block - 1) w) ≡ with_ages block (ages_in w) ages
  word_written w =
      let last : CLUMPS * (block - 1) + CLUMPS ≡ CLUMPS * block = omega (arith, low) in
      ages_of-set ws (block - 1) w word_index
      ∙ (λ i. take (first i) (seen i) ++ ages_in w ++ drop (last i) (seen i))

-- the age of a block's clump, and all ages with another age for it
pub age_at : (w block c : ℕ) (ages : List ℕ) → ages_in w ≡ ages_at block ages → 1 ≤ block → c < CLUMPS
    → age_in w c ≡ get_or ages (clump_at block c) 0
age_at w block c ages is low few =
    each_clump (λ c. age_in w c ≡ get_or (ages_in w) c 0) refl refl refl refl c few
    ∙ ap (λ xs. get_or xs c 0) is ∙ get_or-take CLUMPS (drop (CLUMPS * block - CLUMPS) ages) c 0 few
    ∙ get_or-drop (CLUMPS * block - CLUMPS) ages c 0 ∙ ap (λ k. get_or ages k 0) (omega arith)

set_four : (xs : List ℕ) (f c v : ℕ) → f + CLUMPS ≤ length xs → c < CLUMPS
    → take f xs ++ set (take CLUMPS (drop f xs)) c v ++ drop (f + CLUMPS) xs ≡ set xs (f + c) v
set_four (x ∷ y ∷ z ∷ u ∷ xs) zero c v fits few =
    each_clump (λ c. set (x ∷ y ∷ z ∷ u ∷ []) c v ++ xs ≡ set (x ∷ y ∷ z ∷ u ∷ xs) c v) refl refl refl refl c
    few ∙ ap (λ n. set (x ∷ y ∷ z ∷ u ∷ xs) n v) (let e : c ≡ 0 + c = omega arith in e)
set_four (x ∷ xs) (suc f) c v fits few =
    ap (λ n. x ∷ (take f xs ++ set (take CLUMPS (drop f xs)) c v ++ drop n (x ∷ xs)))
    (let e : suc f + CLUMPS ≡ suc (f + CLUMPS) = omega arith in e)
    ∙ ap (λ ys. x ∷ ys) (set_four xs f c v (omega arith) few)
    ∙ ap (λ n. set (x ∷ xs) n v) (let e : suc (f + c) ≡ suc f + c = omega arith in e)
set_four [] f c v fits few = absurd (omega arith)
set_four (x ∷ []) zero c v fits few = absurd (omega arith)
set_four (x ∷ y ∷ []) zero c v fits few = absurd (omega arith)
set_four (x ∷ y ∷ z ∷ []) zero c v fits few = absurd (omega arith)

pub lowered_at : (w v block c slot g : ℕ) (ages : List ℕ) → ages_in w ≡ ages_at block ages
    → ages_in v ≡ set (ages_in w) c (min (age_in w c) g) → 1 ≤ block → CLUMPS * block ≤ length ages
    → c < CLUMPS
    → IsSlotOf block c slot → with_ages block (ages_in v) ages ≡ lowered ages slot g
lowered_at w v block c slot g ages is v_is low high few of =
    let last : CLUMPS * block ≡ CLUMPS * block - CLUMPS + CLUMPS = omega (arith, low) in
    let index : CLUMPS * block - CLUMPS + c ≡ clump_of slot = omega (arith, low, of.in_block, of.in_clump) in
    let at : CLUMPS * block + c - CLUMPS ≡ clump_of slot = omega (arith, low, index) in
    let age : age_in w c ≡ get_or ages (clump_of slot) 0 =
    age_at w block c ages is low few ∙ ap (λ k. get_or ages k 0) at in
    (λ i. take (CLUMPS * block - CLUMPS) ages ++ (v_is ∙ (λ j. set (is j) c (min (age j) g))) i
    ++ drop (last i) ages)
    ∙ set_four ages (CLUMPS * block - CLUMPS) c (min (get_or ages (clump_of slot) 0) g)
    (omega (arith, low, high)) few
    ∙ ap (λ k. set ages k (min (get_or ages (clump_of slot) 0) g)) index

-- the ages of a block with its own four
same_ages : (block : ℕ) (ages : List ℕ) → 1 ≤ block → with_ages block (ages_at block ages) ages ≡ ages
same_ages block ages low =
    let first = CLUMPS * block - CLUMPS in
    let last : CLUMPS * block ≡ first + CLUMPS = omega (arith, low) in
    ap (λ xs. xs ++ drop (CLUMPS * block) ages) (sym (take-add first CLUMPS ages))
    ∙ ap (λ n. take n ages ++ drop (CLUMPS * block) ages) (sym last) ∙ take-append-drop (CLUMPS * block) ages

-- a clump that is no older than this stays as it is, where its block keeps its word
pub unlowered_at : (w v block c slot g : ℕ) (ages : List ℕ) → ages_in w ≡ ages_at block ages
    → ages_in v ≡ set (ages_in w) c (min (age_in w c) g) → v ≡ w → 1 ≤ block → CLUMPS * block ≤ length ages
    → c < CLUMPS
    → IsSlotOf block c slot → ages ≡ lowered ages slot g
unlowered_at w v block c slot g ages is v_is same low high few of =
    sym (ap (λ four. with_ages block four ages) (ap ages_in same ∙ is) ∙ same_ages block ages low)
    ∙ lowered_at w v block c slot g ages is v_is low high few of

pub ages_small : (ws : List ℕ) → All (λ a. a ≤ 2) (ages_of ws)
ages_small [] k d lt = absurd (omega arith)
ages_small (w ∷ ws) k d lt =
    elim (cases_lt k CLUMPS) [
      | inl first ↦ each_clump (λ c. get_or (ages_of (w ∷ ws)) c d ≤ 2) (age_small w 0) (age_small w 1)
          (age_small w 2) (age_small w 3) k first
      | inr later ↦
          let e : k ≡ suc (suc (suc (suc (k - CLUMPS)))) = omega arith in
          omega (arith, ap (λ n. get_or (ages_of (w ∷ ws)) n d) e, ages_small ws (k - CLUMPS) d (omega arith))
    ]

pub ages_of-replicate : (n w : ℕ) → ages_in w ≡ replicate CLUMPS 2
    → ages_of (replicate n w) ≡ replicate (CLUMPS * n) 2
ages_of-replicate zero w is = refl
ages_of-replicate (suc n) w is =
    ap (λ xs. xs ++ ages_of (replicate n w)) is
    ∙ ap (λ xs. 2 ∷ 2 ∷ 2 ∷ 2 ∷ xs) (ages_of-replicate n w is)
    ∙ ap (λ m. replicate m 2) (let e : suc (suc (suc (suc (CLUMPS * n)))) ≡ CLUMPS * suc n = omega arith in e)

-- the due clumps of a block
pub clumps_due : (m block n : ℕ) (ages : List ℕ) → m < 2 ^ CLUMPS → 1 ≤ block
    → ((c : ℕ) → c < CLUMPS → bit_at m c ≡ cond (nat_le (get_or ages (clump_at block c) 0) n) 1 0)
    → map (clump_at block) (set_bits m) ≡ filter (λ c. nat_le (get_or ages c 0) n) (clumps_of block)
clumps_due m block n ages small low bits =
    let e : (c : ℕ) → clump_at block c ≡ CLUMPS * block - CLUMPS + c = λ c. omega (arith, low) in
    (λ i. map (λ c. e c i) (set_bits m))
    ∙ set_by_bits (λ c. nat_le (get_or ages c 0) n) m (CLUMPS * block - CLUMPS) CLUMPS (omega arith) small
    (λ c lt. bits c lt ∙ ap (λ k. cond (nat_le (get_or ages k 0) n) 1 0) (e c))

pub ruleset reads = (age_at, clumps_due)
