-- Sums over lists and over numbered words.
use Rattle.hd_custody.proofs.Basics.{List, [], ap, arith, cases_lt, eq-eqb, get_or, inl, inr, length, ne_eqb, one_if, refl, replicate, set, suc, sym, total, total_at, zero, ℕ, ◌++◌, ◌+◌, ◌<◌, ◌==◌, ◌∷◌, ◌≡◌, ◌≢◌, ◌≤◌}
use mathlib.Core.Option.{some, some-injective, some-ne-none}
use lib.ListN.{get_elem?}

pub hit : (a b : ℕ) → a ≡ b → one_if (a == b) ≡ 1
hit a b e = ap one_if (eq-eqb a b e)

pub miss : (a b : ℕ) → a ≢ b → one_if (a == b) ≡ 0
miss a b n = ap one_if (ne_eqb a b n)

module _ {A : Type 0} (f : A → ℕ) where
  pub total_set : (xs : List A) (i : ℕ) (v w : A) → get_elem? xs i ≡ some v
      → total f (set xs i w) + f v ≡ total f xs + f w
  total_set [] i v w e = absurd (some-ne-none v (sym e))
  total_set (x ∷ xs) zero v w e = let s : f x ≡ f v = ap f (some-injective x v e) in omega arith
  total_set (x ∷ xs) (suc i) v w e = let r = total_set xs i v w e in omega arith

  pub total_member : (xs : List A) (i : ℕ) (v : A) → get_elem? xs i ≡ some v → f v ≤ total f xs
  total_member [] i v e = absurd (some-ne-none v (sym e))
  total_member (x ∷ xs) zero v e = let s : f x ≡ f v = ap f (some-injective x v e) in omega arith
  total_member (x ∷ xs) (suc i) v e = let r = total_member xs i v e in omega arith

  pub total_two : (xs : List A) (i j : ℕ) (v w : A) → get_elem? xs i ≡ some v → get_elem? xs j ≡ some w
      → i ≢ j → f v + f w ≤ total f xs
  total_two [] i j v w e d n = absurd (some-ne-none v (sym e))
  total_two (x ∷ xs) zero zero v w e d n = absurd (n refl)
  total_two (x ∷ xs) zero (suc j) v w e d n =
      let s : f x ≡ f v = ap f (some-injective x v e) in
      let r = total_member xs j w d in
      omega arith
  total_two (x ∷ xs) (suc i) zero v w e d n =
      let s : f x ≡ f w = ap f (some-injective x w d) in
      let r = total_member xs i v e in
      omega arith
  total_two (x ∷ xs) (suc i) (suc j) v w e d n =
      let r = total_two xs i j v w e d (λ same. n (ap suc same)) in omega arith

  pub total_some : (xs : List A) → 1 ≤ total f xs → (i : ℕ) × (v : A) × (get_elem? xs i ≡ some v) × (1 ≤ f v)
  total_some [] le = absurd (omega (arith, le))
  total_some (x ∷ xs) le = elim (cases_lt 0 (f x)) [
    | inl here ↦ (0, x, refl, here)
    | inr not_here ↦ (let r = total_some xs (omega (arith, le, not_here)) in (suc r.0, r.1, r.2, r.3))
  ]

  pub total_snoc : (xs : List A) (w : A) → total f (xs ++ w ∷ []) ≡ total f xs + f w
  total_snoc [] w = omega arith
  total_snoc (x ∷ xs) w = let r = total_snoc xs w in omega arith

  pub total_append : (xs ys : List A) → total f (xs ++ ys) ≡ total f xs + total f ys
  total_append [] ys = omega arith
  total_append (x ∷ xs) ys = let r = total_append xs ys in omega arith

module _ (f : ℕ → ℕ → ℕ) where
  pub total_at_set : (ws : List ℕ) (k i j n : ℕ) → i < length ws → j ≡ k + i
      → total_at f k (set ws i n) + f j (get_or ws i 0) ≡ total_at f k ws + f j n
  total_at_set [] k i j n lt e = absurd (omega arith)
  total_at_set (w ∷ ws) k zero j n lt e =
      let same : k ≡ j = omega arith in
      let a : f k w ≡ f j w = ap (λ x. f x w) same in
      let b : f k n ≡ f j n = ap (λ x. f x n) same in
      omega arith
  total_at_set (w ∷ ws) k (suc i) j n lt e =
      let r = total_at_set ws (suc k) i j n (omega arith) (omega arith) in omega arith

  pub total_at_member : (ws : List ℕ) (k i j : ℕ) → i < length ws → j ≡ k + i
      → f j (get_or ws i 0) ≤ total_at f k ws
  total_at_member [] k i j lt e = absurd (omega arith)
  total_at_member (w ∷ ws) k zero j lt e =
      let same : k ≡ j = omega arith in
      let a : f k w ≡ f j w = ap (λ x. f x w) same in
      omega arith
  total_at_member (w ∷ ws) k (suc i) j lt e =
      let r = total_at_member ws (suc k) i j (omega arith) (omega arith) in omega arith

  pub total_at_two : (ws : List ℕ) (k i j a b : ℕ) → i < length ws → j < length ws → a ≡ k + i → b ≡ k + j
      → i ≢ j → f a (get_or ws i 0) + f b (get_or ws j 0) ≤ total_at f k ws
  total_at_two [] k i j a b lt lt' e e' n = absurd (omega (arith, lt))
  total_at_two (w ∷ ws) k zero zero a b lt lt' e e' n = absurd (n refl)
  total_at_two (w ∷ ws) k zero (suc j) a b lt lt' e e' n =
      let s : f a w ≡ f k w = ap (λ x. f x w) (omega (arith, e)) in
      let r = total_at_member ws (suc k) j b (omega (arith, lt')) (omega (arith, e')) in
      omega (arith, s, r)
  total_at_two (w ∷ ws) k (suc i) zero a b lt lt' e e' n =
      let s : f b w ≡ f k w = ap (λ x. f x w) (omega (arith, e')) in
      let r = total_at_member ws (suc k) i a (omega (arith, lt)) (omega (arith, e)) in
      omega (arith, s, r)
  total_at_two (w ∷ ws) k (suc i) (suc j) a b lt lt' e e' n =
      let r = total_at_two ws (suc k) i j a b (omega (arith, lt)) (omega (arith, lt')) (omega (arith, e))
      (omega (arith, e')) (λ same. n (ap suc same)) in
      omega (arith, r)

  pub total_at_from : (ws : List ℕ) (k : ℕ) → 1 ≤ total_at f k ws
      → (i : ℕ) × (i < length ws) × (1 ≤ f (k + i) (get_or ws i 0))
  total_at_from [] k le = absurd (omega (arith, le))
  total_at_from (w ∷ ws) k le = elim (cases_lt 0 (f k w)) [
    | inl here ↦ (
      0,
      omega arith,
      (let s : f (k + 0) w ≡ f k w = ap (λ x. f x w) (omega arith) in
          omega (arith, s, here)),
    )
    | inr not_here ↦ (
        let r = total_at_from ws (suc k) (omega (arith, le, not_here)) in
        let s : f (suc k + r.0) (get_or ws r.0 0) ≡ f (k + suc r.0) (get_or ws r.0 0) =
        ap (λ x. f x (get_or ws r.0 0)) (omega arith) in
        (suc r.0, omega (arith, r.1), omega (arith, s, r.2)))
  ]

  pub total_at_some : (ws : List ℕ) → 1 ≤ total_at f 0 ws
      → (i : ℕ) × (i < length ws) × (1 ≤ f i (get_or ws i 0))
  total_at_some ws le =
      let r = total_at_from ws 0 le in
      let s : f (0 + r.0) (get_or ws r.0 0) ≡ f r.0 (get_or ws r.0 0) =
      ap (λ x. f x (get_or ws r.0 0)) (omega arith) in
      (r.0, r.1, omega (arith, s, r.2))

  pub total_at_none : (n k : ℕ) → ((i : ℕ) → f i 0 ≡ 0) → total_at f k (replicate n 0) ≡ 0
  total_at_none zero k none = refl
  total_at_none (suc n) k none = let r = total_at_none n (suc k) none in let h = none k in omega arith
