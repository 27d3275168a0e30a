-- The live rows of a block in the clumps that are due, by the bits of a mask.
use Rattle.hd_ages.proofs.Basics.{Bool, CLUMP, CLUMPS, List, ROWS, Table, [], ap, arith, bit_and, bit_at, bit_at_above, clump_at, clump_of, clumps_of, cond, contains_key, false, filter, map, min, range_with_len, refl, slots_of, suc, true, zero, ℕ, ◌&&◌, ◌*◌, ◌++◌, ◌+◌, ◌-◌, ◌/◌, ◌<◌, ◌==◌, ◌^◌, ◌∙◌, ◌∷◌, ◌≡◌, ◌≤◌}
use Rattle.std.proofs.lemmas.List.Elements.{filter-append}
use Rattle.std.proofs.lemmas.Nat.Bits.{bit_at_and}
use Rattle.hd_mask.specs.Mask.{set_bits}
use Rattle.hd_mask.proofs.SetBits.{set_from, none_from}
use Rattle.hd_ages.specs.Walk.{slots_in}

-- indices at which no bit is set add nothing
few_from : (m a b x : ℕ) → ((i : ℕ) → x + a ≤ i → bit_at m i ≡ 0) → set_from m (a + b) x ≡ set_from m a x
few_from m zero b x clear =
    ap (λ n. set_from m n x) (let e : 0 + b ≡ b = omega arith in e)
    ∙ none_from m b x (λ i le. clear i (omega arith))
few_from m (suc a) b x clear =
    ap (λ n. set_from m n x) (let e : suc a + b ≡ suc (a + b) = omega arith in e)
    ∙ ap (λ rest. cond (bit_at m x == 1) (x ∷ rest) rest)
    (few_from m a b (x + 1) (λ i le. clear i (omega arith)))

map-cond : (f : ℕ → ℕ) (t : Bool) (x : ℕ) (xs : List ℕ)
    → map f (cond t (x ∷ xs) xs) ≡ cond t (f x ∷ map f xs) (map f xs)
map-cond f true x xs = refl
map-cond f false x xs = refl

-- the indices of set bits, shifted, are the numbers that pass a test that agrees with the bits
moved_from : (test : ℕ → Bool) (m first k x : ℕ)
    → ((i : ℕ) → x ≤ i → i < x + k → (bit_at m i == 1) ≡ test (first + i))
    → map (λ row. first + row) (set_from m k x) ≡ filter test (range_with_len (first + x) k)
moved_from test m first zero x same = refl
moved_from test m first (suc k) x same =
    let rest : map (λ row. first + row) (set_from m k (x + 1))
    ≡ filter test (range_with_len (first + x + 1) k) =
    moved_from test m first k (x + 1) (λ i le lt. same i (omega arith) (omega arith))
    ∙ ap (λ n. filter test (range_with_len n k))
    (let e : first + (x + 1) ≡ first + x + 1 = omega arith in e) in
    map-cond (λ row. first + row) (bit_at m x == 1) x (set_from m k (x + 1))
    ∙ (λ i. cond (same x (omega arith) (omega arith) i) ((first + x) ∷ rest i) (rest i))

is_one : (t : Bool) (x : ℕ) → x ≡ cond t 1 0 → (x == 1) ≡ t
is_one true x is = ap (λ y. y == 1) is
is_one false x is = ap (λ y. y == 1) is

-- those of a mask of k bits
pub set_by_bits : (test : ℕ → Bool) (m first k : ℕ) → k ≤ 64 → m < 2 ^ k
    → ((i : ℕ) → i < k → bit_at m i ≡ cond (test (first + i)) 1 0)
    → map (λ row. first + row) (set_bits m) ≡ filter test (range_with_len first k)
unfolding set_bits
set_by_bits test m first k few small bits =
    ap (λ n. map (λ row. first + row) (set_from m n 0)) (let e : 64 ≡ k + (64 - k) = omega (arith, few) in e)
    ∙ ap (map (λ row. first + row)) (few_from m k (64 - k) 0 (λ i le. bit_at_above m k i small (omega arith)))
    ∙ moved_from test m first k 0 (λ i le lt. is_one (test (first + i)) (bit_at m i) (bits i (omega arith)))
    ∙ ap (λ n. filter test (range_with_len n k)) (let e : first + 0 ≡ first = omega arith in e)

-- those of a whole mask
set_by_all : (test : ℕ → Bool) (m first : ℕ)
    → ((i : ℕ) → i < 64 → bit_at m i ≡ cond (test (first + i)) 1 0)
    → map (λ row. first + row) (set_bits m) ≡ filter test (range_with_len first 64)
unfolding set_bits
set_by_all test m first bits =
    moved_from test m first 64 0 (λ i le lt. is_one (test (first + i)) (bit_at m i) (bits i (omega arith)))
    ∙ ap (λ n. filter test (range_with_len n 64)) (let e : first + 0 ≡ first = omega arith in e)

-- numbers in a row pass two tests alike that agree on them
range_agree : (p q : ℕ → Bool) (a k : ℕ) → ((i : ℕ) → a ≤ i → i < a + k → p i ≡ q i)
    → filter p (range_with_len a k) ≡ filter q (range_with_len a k)
range_agree p q a zero same = refl
range_agree p q a (suc k) same =
    let rest : filter p (range_with_len (a + 1) k) ≡ filter q (range_with_len (a + 1) k) =
    range_agree p q (a + 1) k (λ i low high. same i (omega arith) (omega arith)) in
    λ i. cond (same a (omega arith) (omega arith) i) (a ∷ rest i) (rest i)

range_append : (a k l : ℕ) → range_with_len a (k + l) ≡ range_with_len a k ++ range_with_len (a + k) l
range_append a zero l =
    λ i. range_with_len ((let e : a ≡ a + 0 = omega arith in e) i)
    ((let e : 0 + l ≡ l = omega arith in e) i)
range_append a (suc k) l =
    ap (range_with_len a) (let e : suc k + l ≡ suc (k + l) = omega arith in e)
    ∙ ap (λ xs. a ∷ xs) (range_append (a + 1) k l
    ∙ ap (λ n. range_with_len (a + 1) k ++ range_with_len n l)
    (let e : a + 1 + k ≡ a + suc k = omega arith in e))

none_pass : (xs : List ℕ) → filter (λ x. false) xs ≡ []
none_pass [] = refl
none_pass (x ∷ xs) = none_pass xs

module _ (t : Table) (young : ℕ → Bool) where
  -- a live slot of a clump that passes
  abbrev is_seen : ℕ → Bool
  is_seen slot = young (clump_of slot) && contains_key t.rows slot

  -- those of one clump
  of_clump : (c : ℕ) (rest : List ℕ)
      → filter is_seen (range_with_len (CLUMP * c + ROWS) CLUMP) ++ slots_of t rest
      ≡ slots_of t (cond (young c) (c ∷ rest) rest)
  unfolding slots_in
  of_clump c rest =
      ap (λ xs. xs ++ slots_of t rest)
      (range_agree is_seen (λ slot. young c && contains_key t.rows slot) (CLUMP * c + ROWS) CLUMP
      (λ i low high. ap (λ d. young d && contains_key t.rows i)
      (let e : clump_of i ≡ c = omega arith in e)))
      ∙ by (young c)
    where
      by : (b : Bool) → filter (λ slot. b && contains_key t.rows slot) (range_with_len (CLUMP * c + ROWS) CLUMP)
          ++ slots_of t rest ≡ slots_of t (cond b (c ∷ rest) rest)
      by true = refl
      by false = ap (λ xs. xs ++ slots_of t rest) (none_pass (range_with_len (CLUMP * c + ROWS) CLUMP))

  -- those of clumps in a row
  of_clumps : (c k : ℕ) → filter is_seen (range_with_len (CLUMP * c + ROWS) (CLUMP * k))
      ≡ slots_of t (filter young (range_with_len c k))
  of_clumps c zero = refl
  of_clumps c (suc k) =
      let first : ℕ = CLUMP * c + ROWS in
      ap (λ n. filter is_seen (range_with_len first n))
      (let e : CLUMP * suc k ≡ CLUMP + CLUMP * k = omega arith in e)
      ∙ ap (filter is_seen) (range_append first CLUMP (CLUMP * k))
      ∙ filter-append is_seen (range_with_len first CLUMP) (range_with_len (first + CLUMP) (CLUMP * k))
      ∙ ap (λ xs. filter is_seen (range_with_len first CLUMP) ++ xs)
      (ap (λ n. filter is_seen (range_with_len n (CLUMP * k)))
      (let e : first + CLUMP ≡ CLUMP * (c + 1) + ROWS = omega arith in e) ∙ of_clumps (c + 1) k)
      ∙ of_clump c (filter young (range_with_len (c + 1) k))

  -- the live rows of the clumps of a block that pass, by the bits of a mask
  pub rows_by_bits : (m b : ℕ) → 1 ≤ b
      → ((i : ℕ) → i < ROWS
      → bit_at m i ≡ cond (young (clump_at b (i / CLUMP)) && contains_key t.rows (ROWS * b + i)) 1 0)
      → map (λ row. ROWS * b + row) (set_bits m) ≡ slots_of t (filter young (clumps_of b))
  rows_by_bits m b low bits =
      set_by_all is_seen m (ROWS * b)
      (λ i lt. bits i lt ∙ ap (λ c. cond (young c && contains_key t.rows (ROWS * b + i)) 1 0)
      (let e : clump_at b (i / CLUMP) ≡ clump_of (ROWS * b + i) = omega arith in e))
      ∙ ap (λ n. filter is_seen (range_with_len n ROWS))
      (let e : ROWS * b ≡ CLUMP * (CLUMPS * b - CLUMPS) + ROWS = omega arith in e)
      ∙ of_clumps (CLUMPS * b - CLUMPS) CLUMPS

-- two bits together
pub both_bits : (x y i : ℕ) (p q : Bool) → bit_at x i ≡ cond p 1 0 → bit_at y i ≡ cond q 1 0
    → bit_at (bit_and x y) i ≡ cond (p && q) 1 0
both_bits x y i p q one two = bit_at_and x y i ∙ (λ j. min (one j) (two j)) ∙ by p q
  where
    by : (p q : Bool) → min (cond p 1 0) (cond q 1 0) ≡ cond (p && q) 1 0
    by true true = refl
    by true false = refl
    by false true = refl
    by false false = refl
