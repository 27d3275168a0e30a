-- Four ages in one word: what an operation does to them is tested on each word.
use Rattle.hd_ages.proofs.Basics.{Bool, IsWord, List, [], age_in, ages_in, and_parts, ap, arith, bit_and, bit_at, bit_at-lt, bit_at_ones, bit_or, both_ways, cases_eq, cases_lt, cond, eqb-true, grown, inl, inr, is_word, le-leb, lt-leb, ltb-true, min, nat_le, not, not-true, or_cases, raised, refl, set, slice_index, suc, sym, true, zero, ℕ, ⊎_elim, ◌%◌, ◌&&◌, ◌*◌, ◌+◌, ◌-◌, ◌/◌, ◌<◌, ◌==◌, ◌^◌, ◌||◌, ◌∙◌, ◌∷◌, ◌≡◌, ◌≤◌, All, eq-eqb, get_or, leb-true}
use Rattle.hd_model.proofs.IdleCollection.{raised_older}

-- the clumps of a block
pub each_clump : (P : ℕ → Type 0) → P 0 → P 1 → P 2 → P 3 → (c : ℕ) → c < 4 → P c
each_clump P a b c d zero lt = a
each_clump P a b c d (suc zero) lt = b
each_clump P a b c d (suc (suc zero)) lt = c
each_clump P a b c d (suc (suc (suc zero))) lt = d
each_clump P a b c d (suc (suc (suc (suc n)))) lt = absurd (omega arith)

pub age_small : (word c : ℕ) → age_in word c ≤ 2
age_small word c = omega (arith, bit_at-lt word c, bit_at-lt word (c + 4))

-- ---- tests of all words

unfoldable all_below : ℕ → (ℕ → Bool) → Bool
all_below zero test = true
all_below (suc n) test = test n && all_below n test

of_all : (n : ℕ) (test : ℕ → Bool) → all_below n test ≡ true → (k : ℕ) → k < n → test k ≡ true
unfolding all_below
of_all zero test all k lt = absurd (omega arith)
of_all (suc n) test all k lt =
    let (here, rest) = and_parts (test n) (all_below n test) all in
    elim (cases_eq k n) [ inl same ↦ ap test same ∙ here | inr apart ↦ of_all n test rest k (omega arith) ]

-- a test of each clump of each word
abbrev holds_of_words : (ℕ → ℕ → Bool) → Bool
holds_of_words test = all_below 256 (λ w. not (is_word w) || all_below 4 (test w))

of_words : (test : ℕ → ℕ → Bool) → holds_of_words test ≡ true → (w : ℕ) → IsWord w → (c : ℕ) → c < 4
    → test w c ≡ true
of_words test all w is c lt =
    let small : w < 256 = ltb-true w 256 (and_parts _ _ is.holds).0 in
    ⊎_elim (λ no. absurd (both_ways _ (not-true _ no) is.holds)) (λ each. of_all 4 (test w) each c lt)
    (or_cases _ _ (of_all 256 (λ w. not (is_word w) || all_below 4 (test w)) all w small))

-- a word with the age of each clump
abbrev made : ℕ → (ℕ → ℕ) → Bool
made v age = is_word v && (age_in v 0 == age 0
    && (age_in v 1 == age 1 && (age_in v 2 == age 2 && age_in v 3 == age 3)))

record Makes (v : ℕ) (age : ℕ → ℕ) : Type 0 where
  pub word : IsWord v
  pub ages : ages_in v ≡ age 0 ∷ age 1 ∷ age 2 ∷ age 3 ∷ []

makes : (v : ℕ) (age : ℕ → ℕ) → made v age ≡ true → Makes v age
makes v age is =
    let same : ℕ → Bool = λ c. age_in v c == age c in
    let (word, four) = and_parts (is_word v) (same 0 && (same 1 && (same 2 && same 3))) is in
    let (a, three) = and_parts (same 0) (same 1 && (same 2 && same 3)) four in
    let (b, two) = and_parts (same 1) (same 2 && same 3) three in
    let (c, d) = and_parts (same 2) (same 3) two in
    let e : (c : ℕ) → same c ≡ true → age_in v c ≡ age c = λ c. eqb-true (age_in v c) (age c) in
    record { word = record { holds = word }; ages = λ i. e 0 a i ∷ e 1 b i ∷ e 2 c i ∷ e 3 d i ∷ [] }

-- ---- lowering

abbrev with_age : ℕ → ℕ → ℕ → ℕ → ℕ
with_age w c x d = cond (d == c) x (age_in w d)

set_age : (w c x : ℕ) → c < 4
    → with_age w c x 0 ∷ with_age w c x 1 ∷ with_age w c x 2 ∷ with_age w c x 3 ∷ [] ≡ set (ages_in w) c x
set_age w c x =
    each_clump (λ c. with_age w c x 0 ∷ with_age w c x 1 ∷ with_age w c x 2 ∷ with_age w c x 3 ∷ []
    ≡ set (ages_in w) c x) refl refl refl refl c

low_zero : holds_of_words (λ w c. made (bit_and w (255 - 17 * 2 ^ c % 256)) (with_age w c 0)) ≡ true
unfolding all_below
low_zero = refl

low_one :
    holds_of_words (λ w c. made (bit_and w (255 - 16 * 2 ^ c % 256)) (with_age w c (min (age_in w c) 1))) ≡
    true
unfolding all_below
low_one = refl

none_due : holds_of_words (λ w c. bit_at (bit_and (255 - w) 15) c == cond (nat_le (age_in w c) 0) 1 0) ≡ true
unfolding all_below
none_due = refl

one_due :
    holds_of_words (λ w c. bit_at (bit_and (255 - w / 16) 15) c == cond (nat_le (age_in w c) 1) 1 0) ≡ true
unfolding all_below
one_due = refl

none_grown : holds_of_words (λ w c. made (bit_or w 15) (λ d. raised 0 (age_in w d))) ≡ true
unfolding all_below
none_grown = refl

some_grown :
    holds_of_words (λ w c. made (bit_or (bit_or w (bit_and w 15 * 16 % 256)) 15) (λ d. raised 1 (age_in w d)))
    ≡ true
unfolding all_below
some_grown = refl

-- the rows of each mask of clumps
abbrev pub clump_rows : List ℕ
clump_rows =
    0 ∷ 65535 ∷ 4294901760 ∷ 4294967295 ∷ 281470681743360 ∷ 281470681808895 ∷ 281474976645120
    ∷ 281474976710655 ∷ 18446462598732840960 ∷ 18446462598732906495 ∷ 18446462603027742720
    ∷ 18446462603027808255 ∷ 18446744069414584320 ∷ 18446744069414649855 ∷ 18446744073709486080
    ∷ 18446744073709551615 ∷ []

all_rows :
    all_below 16 (λ m. all_below 64 (λ row. bit_at (slice_index clump_rows m) row == bit_at m (row / 16)))
    ≡ true
unfolding all_below
all_rows = refl

pub rows_read : (m row : ℕ) → m < 16 → row < 64
    → bit_at (slice_index clump_rows m) row ≡ bit_at m (row / 16)
rows_read m row few lt =
    let test : ℕ → ℕ → Bool = λ m row. bit_at (slice_index clump_rows m) row == bit_at m (row / 16) in
    eqb-true _ _ (of_all 64 (test m) (of_all 16 (λ m. all_below 64 (test m)) all_rows m few) row lt)

one_at_least : holds_of_words (λ w c. not (bit_and w 15 == 15) || nat_le 1 (age_in w c)) ≡ true
unfolding all_below
one_at_least = refl

two_at_least : holds_of_words (λ w c. not (w / 16 == 15) || nat_le 2 (age_in w c)) ≡ true
unfolding all_below
two_at_least = refl

-- from generation 1 on each age is raised that can be
pub raised_up : (n g : ℕ) → g ≤ n → raised n g ≡ min (g + 1) 2
raised_up n g le = ap (λ t. cond t g (min (g + 1) 2)) (lt-leb (suc n) g (omega arith))

raised_some : (n a : ℕ) → 1 ≤ n → a ≤ 2 → raised 1 a ≡ raised n a
raised_some n zero some small = sym (raised_up n 0 (omega arith))
raised_some n (suc zero) some small = sym (raised_up n 1 some)
raised_some n (suc (suc zero)) some small =
    elim (cases_lt n 2) [ inl below ↦ sym (raised_older n 2 below) | inr most ↦ sym (raised_up n 2 most) ]
raised_some n (suc (suc (suc a))) some small = absurd (omega arith)

-- ---- what the operations do

module _ (w : ℕ) (is : IsWord w) where
  zeroed : (c : ℕ) → c < 4 → Makes (bit_and w (255 - 17 * 2 ^ c % 256)) (with_age w c 0)
  zeroed c lt = makes _ _ (of_words _ low_zero w is c lt)

  at_most_one : (c : ℕ) → c < 4
      → Makes (bit_and w (255 - 16 * 2 ^ c % 256)) (with_age w c (min (age_in w c) 1))
  at_most_one c lt = makes _ _ (of_words _ low_one w is c lt)

  pub ages-low_zero : (c : ℕ) → c < 4 → ages_in (bit_and w (255 - 17 * 2 ^ c % 256)) ≡ set (ages_in w) c 0
  ages-low_zero c lt = (zeroed c lt).ages ∙ set_age w c 0 lt

  pub word-low_zero : (c : ℕ) → c < 4 → IsWord (bit_and w (255 - 17 * 2 ^ c % 256))
  word-low_zero c lt = (zeroed c lt).word

  pub ages-low_one : (c : ℕ) → c < 4 → ages_in (bit_and w (255 - 16 * 2 ^ c % 256))
      ≡ set (ages_in w) c (min (age_in w c) 1)
  ages-low_one c lt = (at_most_one c lt).ages ∙ set_age w c (min (age_in w c) 1) lt

  pub word-low_one : (c : ℕ) → c < 4 → IsWord (bit_and w (255 - 16 * 2 ^ c % 256))
  word-low_one c lt = (at_most_one c lt).word

  pub ages-same : (g c : ℕ) → 2 ≤ g → c < 4 → ages_in w ≡ set (ages_in w) c (min (age_in w c) g)
  ages-same g c most lt =
      each_clump (λ c. ages_in w ≡ set (ages_in w) c (age_in w c)) refl refl refl refl c lt
      ∙ ap (set (ages_in w) c) (let e : age_in w c ≡ min (age_in w c) g = omega (arith, age_small w c) in e)

  pub due-none : (c : ℕ) → c < 4 → bit_at (bit_and (255 - w) 15) c ≡ cond (nat_le (age_in w c) 0) 1 0
  due-none c lt = eqb-true _ _ (of_words _ none_due w is c lt)

  pub due-one : (c : ℕ) → c < 4 → bit_at (bit_and (255 - w / 16) 15) c ≡ cond (nat_le (age_in w c) 1) 1 0
  due-one c lt = eqb-true _ _ (of_words _ one_due w is c lt)

  pub due-all : (n c : ℕ) → 2 ≤ n → c < 4 → bit_at 15 c ≡ cond (nat_le (age_in w c) n) 1 0
  due-all n c most lt =
      bit_at_ones 4 c lt ∙ sym (ap (λ t. cond t 1 0) (le-leb (age_in w c) n (omega (arith, age_small w c))))

  grown_none : Makes (bit_or w 15) (λ d. raised 0 (age_in w d))
  grown_none = makes _ _ (of_words _ none_grown w is 0 (omega arith))

  grown_some : Makes (bit_or (bit_or w (bit_and w 15 * 16 % 256)) 15) (λ d. raised 1 (age_in w d))
  grown_some = makes _ _ (of_words _ some_grown w is 0 (omega arith))

  pub ages-grown_none : ages_in (bit_or w 15) ≡ grown 0 (ages_in w)
  ages-grown_none = grown_none.ages

  pub word-grown_none : IsWord (bit_or w 15)
  word-grown_none = grown_none.word

  pub ages-grown_some : (n : ℕ) → 1 ≤ n → ages_in (bit_or (bit_or w (bit_and w 15 * 16 % 256)) 15)
      ≡ grown n (ages_in w)
  ages-grown_some n some =
      let up : (c : ℕ) → raised 1 (age_in w c) ≡ raised n (age_in w c) =
      λ c. raised_some n (age_in w c) some (age_small w c) in
      grown_some.ages ∙ (λ i. up 0 i ∷ up 1 i ∷ up 2 i ∷ up 3 i ∷ [])

  pub word-grown_some : IsWord (bit_or (bit_or w (bit_and w 15 * 16 % 256)) 15)
  word-grown_some = grown_some.word

  each_age : (y : ℕ) → ((c : ℕ) → c < 4 → y ≤ age_in w c) → All (λ a. y ≤ a) (ages_in w)
  each_age y each k d lt =
      each_clump (λ c. y ≤ get_or (ages_in w) c d) (each 0 (omega arith)) (each 1 (omega arith))
      (each 2 (omega arith)) (each 3 (omega arith)) k lt

  at_least : (y : ℕ) (holds : ℕ → Bool)
      → holds_of_words (λ w c. not (holds w) || nat_le y (age_in w c)) ≡ true → holds w ≡ true
      → All (λ a. y ≤ a) (ages_in w)
  at_least y holds all is_so = each_age y
      (λ c lt. ⊎_elim (λ no. absurd (both_ways (holds w) (not-true (holds w) no) is_so))
      (leb-true y (age_in w c))
      (or_cases (not (holds w)) (nat_le y (age_in w c)) (of_words _ all w is c lt)))

  pub least_none : All (λ a. 0 ≤ a) (ages_in w)
  least_none = each_age 0 (λ c lt. omega arith)

  pub least_one : bit_and w 15 ≡ 15 → All (λ a. 1 ≤ a) (ages_in w)
  least_one e = at_least 1 (λ v. bit_and v 15 == 15) one_at_least (eq-eqb (bit_and w 15) 15 e)

  pub least_two : w / 16 ≡ 15 → All (λ a. 2 ≤ a) (ages_in w)
  least_two e = at_least 2 (λ v. v / 16 == 15) two_at_least (eq-eqb (w / 16) 15 e)

pub ruleset dues = (due-none, due-one, due-all)

pub ruleset lows = (ages-low_zero, word-low_zero, ages-low_one, word-low_one, ages-same)

pub ruleset grows = (ages-grown_none, word-grown_none, ages-grown_some, word-grown_some)

pub ruleset least = (least_none, least_one, least_two)
