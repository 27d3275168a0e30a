-- Members of sets of numbers after one change, and of runs of numbers.
use Rattle.hd_tiers.proofs.Basics.{BITS, Bool, FinSet, List, ap, arith, cases_eq, cond, contains, contains-difference, contains-from_list_nat, contains-insert, contains-remove, contains-union, difference, eq-eqb, eq_by_cmp, false, filter, inl, inr, insert, list_any, nat_cmp, nat_cmp_total, nat_eq, ne_eqb, not, range_with_len, refl, remove, suc, true, union, unsigned_tied, zero, ℕ, ◌&&◌, ◌*◌, ◌+◌, ◌/◌, ◌<◌, ◌||◌, ◌∙◌, ◌∷◌, ◌≡◌, ◌≢◌, ◌≤◌, ◌⊎◌}
use Rattle.hd_tiers.specs.Sets.{numbers_of}

or-true : (a : Bool) → (a || true) ≡ true
or-true true = refl
or-true false = refl

or-false : (a : Bool) → (a || false) ≡ a
or-false true = refl
or-false false = refl

and-true : (a : Bool) → (a && true) ≡ a
and-true true = refl
and-true false = refl

and-false : (a : Bool) → (a && false) ≡ false
and-false true = refl
and-false false = refl

-- ---- one number

module _ (s : FinSet nat_cmp) (k q : ℕ) where
  pub insert_same : q ≡ k → contains (insert s k) q ≡ true
  insert_same e = contains-insert nat_cmp_total s k q ∙ ap (λ b. b || contains s q)
      (unsigned_tied q k ∙ eq-eqb q k e)

  pub insert_other : q ≢ k → contains (insert s k) q ≡ contains s q
  insert_other apart = contains-insert nat_cmp_total s k q ∙ ap (λ b. b || contains s q)
      (unsigned_tied q k ∙ ne_eqb q k apart)

  pub insert_keeps : contains s q ≡ true → contains (insert s k) q ≡ true
  insert_keeps member = contains-insert nat_cmp_total s k q ∙ ap (λ b. eq_by_cmp nat_cmp q k || b) member ∙
      or-true _

  pub remove_same : q ≡ k → contains (remove s k) q ≡ false
  remove_same e = contains-remove nat_cmp_total s k q ∙ ap (λ b. not b && contains s q)
      (unsigned_tied q k ∙ eq-eqb q k e)

  pub remove_other : q ≢ k → contains (remove s k) q ≡ contains s q
  remove_other apart = contains-remove nat_cmp_total s k q ∙ ap (λ b. not b && contains s q)
      (unsigned_tied q k ∙ ne_eqb q k apart)

-- ---- a run of numbers

module _ (q : ℕ) where
  any_at : (a : ℕ) (rest : List ℕ) (b : Bool) → list_any (λ y. nat_eq y q) rest ≡ b → a ≢ q → list_any
      (λ y. nat_eq y q) (a ∷ rest) ≡ b
  any_at a rest b is apart = ap (λ t. t || list_any (λ y. nat_eq y q) rest) (ne_eqb a q apart) ∙ is

  any_here : (a : ℕ) (rest : List ℕ) → a ≡ q → list_any (λ y. nat_eq y q) (a ∷ rest) ≡ true
  any_here a rest e = ap (λ t. t || list_any (λ y. nat_eq y q) rest) (eq-eqb a q e)

  pub run_in : (n a : ℕ) → a ≤ q → q < a + n → list_any (λ y. nat_eq y q) (range_with_len a n) ≡ true
  run_in zero a low high = absurd (omega arith)
  run_in (suc n) a low high =
      elim (cases_eq a q) [
        | inl e ↦ any_here a _ e
        | inr apart ↦ any_at a _ true (run_in n (a + 1) (omega arith) (omega arith)) apart
      ]

  pub run_outside : (n a : ℕ) → (q < a) ⊎ (a + n ≤ q) → list_any (λ y. nat_eq y q) (range_with_len a n) ≡
      false
  run_outside zero a out = refl
  run_outside (suc n) a (inl low) = any_at a _ false (run_outside n (a + 1) (inl (omega arith)))
      (λ e. omega arith)
  run_outside (suc n) a (inr high) = any_at a _ false (run_outside n (a + 1) (inr (omega arith)))
      (λ e. omega arith)

  -- the numbers of a run that pass a test
  module _ (p : ℕ → Bool) where
    kept_at : (a : ℕ) (rest : List ℕ) (b : Bool) → list_any (λ y. nat_eq y q) rest ≡ b → a ≢ q → (t : Bool) →
        list_any (λ y. nat_eq y q) (cond t (a ∷ rest) rest) ≡ b
    kept_at a rest b is apart true = any_at a rest b is apart
    kept_at a rest b is apart false = is

    pub kept_outside : (n a : ℕ) → (q < a) ⊎ (a + n ≤ q) → list_any (λ y. nat_eq y q)
        (filter p (range_with_len a n)) ≡ false
    kept_outside zero a out = refl
    kept_outside (suc n) a (inl low) = kept_at a _ false (kept_outside n (a + 1) (inl (omega arith)))
        (λ e. omega arith) (p a)
    kept_outside (suc n) a (inr high) = kept_at a _ false (kept_outside n (a + 1) (inr (omega arith)))
        (λ e. omega arith) (p a)

    kept_here : (a : ℕ) (rest : List ℕ) → a ≡ q → list_any (λ y. nat_eq y q) rest ≡ false → (t : Bool) →
        list_any (λ y. nat_eq y q) (cond t (a ∷ rest) rest) ≡ t
    kept_here a rest e none true = any_here a rest e
    kept_here a rest e none false = none

    pub kept_in : (n a : ℕ) → a ≤ q → q < a + n → list_any (λ y. nat_eq y q) (filter p (range_with_len a n)) ≡
        p q
    kept_in zero a low high = absurd (omega arith)
    kept_in (suc n) a low high =
        elim (cases_eq a q) [
          | inl e ↦ kept_here a _ e (kept_outside n (a + 1) (inl (omega arith))) (p a) ∙ ap p e
          | inr apart ↦ kept_at a _ (p q) (kept_in n (a + 1) (omega arith) (omega arith)) apart (p a)
        ]

-- ---- the numbers of one block

module _ (block q : ℕ) where
  pub numbers_same : q / BITS ≡ block → contains (numbers_of block) q ≡ true
  unfolding numbers_of
  numbers_same e = contains-from_list_nat (range_with_len (BITS * block) BITS) q ∙ run_in q BITS (BITS * block)
      (omega arith) (omega arith)

  out : q / BITS ≢ block → (q < BITS * block) ⊎ (BITS * block + BITS ≤ q)
  out apart =
      elim (Rattle.std.proofs.lemmas.Bool.cases_order (q / BITS) block) [
        | inl e ↦ absurd (apart e)
        | inr (inl less) ↦ inl (omega arith)
        | inr (inr more) ↦ inr (omega arith)
      ]

  pub numbers_other : q / BITS ≢ block → contains (numbers_of block) q ≡ false
  unfolding numbers_of
  numbers_other apart = contains-from_list_nat (range_with_len (BITS * block) BITS) q ∙ run_outside q BITS
      (BITS * block) (out apart)

  module _ (s : FinSet nat_cmp) where
    pub union_same : q / BITS ≡ block → contains (union s (numbers_of block)) q ≡ true
    union_same e = contains-union nat_cmp_total s (numbers_of block) q ∙ ap (λ b. contains s q || b)
        (numbers_same e) ∙ or-true _

    pub union_other : q / BITS ≢ block → contains (union s (numbers_of block)) q ≡ contains s q
    union_other apart = contains-union nat_cmp_total s (numbers_of block) q ∙ ap (λ b. contains s q || b)
        (numbers_other apart) ∙ or-false _

    pub difference_same : q / BITS ≡ block → contains (difference s (numbers_of block)) q ≡ false
    difference_same e = contains-difference nat_cmp_total s (numbers_of block) q ∙ ap
        (λ b. contains s q && not b) (numbers_same e) ∙ and-false _

    pub difference_other : q / BITS ≢ block → contains (difference s (numbers_of block)) q ≡ contains s q
    difference_other apart = contains-difference nat_cmp_total s (numbers_of block) q ∙ ap
        (λ b. contains s q && not b) (numbers_other apart) ∙ and-true _
