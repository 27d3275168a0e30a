-- The list of a mask's set bits: its length, its first, and the lists of two masks that split it.
use Rattle.hd_mask.proofs.Basics.{BITS, List, Some, [], add-zero, ap, arith, bit_at, bit_at-lt, bit_at-pow_other, bit_at-pow_same, bit_at-zero, cases_eq, cond, div-eq_of_lt, div-one, drop, filter, inl, inr, length, min, ones_step, pow_below, refl, shr-shr, slice_get, subst, suc, sym, take, zero, zero-add, ℕ, ◌++◌, ◌+◌, ◌/◌, ◌<◌, ◌==◌, ◌^◌, ◌∙◌, ◌∷◌, ◌≡◌, ◌≢◌, ◌≤◌, ◌⊎◌}
use Rattle.std.specs.{Int.RustNames.count_ones, List.range_with_len}
use Rattle.hd_mask.specs.Mask.{set_bits}
use Rattle.hd_mask.proofs.Ones.{ones-pow}

-- the set bits among k bit indices from x on
abbrev pub set_from : ℕ → ℕ → ℕ → List ℕ
set_from n k x = filter (λ i. bit_at n i == 1) (range_with_len x k)

-- ---- their number

one_more : (b : ℕ) → b < 2 → (x : ℕ) (rest : List ℕ)
    → length (cond (b == 1) (x ∷ rest) rest) ≡ b + length rest
one_more zero lt x rest = sym (zero-add (length rest))
one_more (suc zero) lt x rest = omega arith
one_more (suc (suc b)) lt x rest = absurd (omega arith)

length-set_from : (n k x : ℕ) → n < 2 ^ (x + k) → length (set_from n k x) ≡ count_ones (n / 2 ^ x)
unfolding count_ones
length-set_from n zero x fits =
    let small : n < 2 ^ x = subst (λ j. n < 2 ^ j) (add-zero x) fits in
    ap count_ones (sym (div-eq_of_lt small))
length-set_from n (suc k) x fits =
    let next : x + suc k ≡ x + 1 + k = omega arith in
    let rest = length-set_from n k (x + 1) (subst (λ j. n < 2 ^ j) next fits) in
    one_more (bit_at n x) (bit_at-lt n x) x _
    ∙ omega (arith, rest, ones_step (n / 2 ^ x), ap count_ones (shr-shr n x 1))

pub length-set_bits : (n : ℕ) → n < 2 ^ 64 → length (set_bits n) ≡ count_ones n
unfolding set_bits
length-set_bits n fits = length-set_from n BITS 0 fits ∙ ap count_ones (div-one n)

-- ---- none, and the first

pub none_from : (n k x : ℕ) → ((i : ℕ) → x ≤ i → bit_at n i ≡ 0) → set_from n k x ≡ []
none_from n zero x clear = refl
none_from n (suc k) x clear =
    let here = clear x (omega arith) in
    rw here (none_from n k (x + 1) (λ i le. clear i (omega arith)))

pub set_bits-zero : set_bits 0 ≡ []
unfolding set_bits
set_bits-zero = none_from 0 BITS 0 (λ i _. bit_at-zero i)

module _ (n t : ℕ) (set : bit_at n t ≡ 1) (least : (i : ℕ) → i < t → bit_at n i ≡ 0) where
  first_here : (k x : ℕ) → (x + 1 ≤ t → slice_get (set_from n k (x + 1)) 0 ≡ Some t)
      → (x ≡ t) ⊎ (x ≢ t) → x ≤ t → slice_get (set_from n (suc k) x) 0 ≡ Some t
  first_here k x next (inl e) le =
      let here : bit_at n x ≡ 1 = ap (bit_at n) e ∙ set in rw here (ap Some e)
  first_here k x next (inr apart) le =
      let here : bit_at n x ≡ 0 = least x (omega arith) in rw here (next (omega arith))

  first_from : (k x : ℕ) → x ≤ t → t < x + k → slice_get (set_from n k x) 0 ≡ Some t
  first_from zero x le lt = absurd (omega arith)
  first_from (suc k) x le lt =
      first_here k x (λ more. first_from k (x + 1) more (omega arith)) (cases_eq x t) le

  pub first-set_bits : t < BITS → slice_get (set_bits n) 0 ≡ Some t
  unfolding set_bits
  first-set_bits lt = first_from BITS 0 (omega arith) (omega arith)

-- ---- one bit alone

single : (xs : List ℕ) (x : ℕ) → length xs ≡ 1 → slice_get xs 0 ≡ Some x → xs ≡ x ∷ []
single [] x long first = absurd (omega arith)
single (y ∷ []) x long first = let same : y ≡ x = cc in ap (λ z. z ∷ []) same
single (y ∷ z ∷ rest) x long first = absurd (omega arith)

pub set_bits-pow : (t : ℕ) → t < BITS → set_bits (2 ^ t) ≡ t ∷ []
set_bits-pow t lt =
    single (set_bits (2 ^ t)) t (length-set_bits (2 ^ t) (pow_below t BITS lt) ∙ ones-pow t)
    (first-set_bits (2 ^ t) t (bit_at-pow_same t) (λ i below. clear i (omega arith)) lt)
  where
    clear : (i : ℕ) → i ≢ t → bit_at (2 ^ t) i ≡ 0
    clear = bit_at-pow_other t

-- ---- two masks that split a third, all rows of the one below those of the other

-- one bit index more, at which at most one of the two has its bit set
joined : (p q r x : ℕ) (whole front back : List ℕ) → r ≡ p + q → r < 2 → (q ≡ 1 → front ≡ [])
    → whole ≡ front ++ back → cond (r == 1) (x ∷ whole) whole
    ≡ cond (p == 1) (x ∷ front) front ++ cond (q == 1) (x ∷ back) back
joined zero zero r x whole front back sum two none e =
    let clear : r ≡ 0 = omega arith in rw clear e
joined (suc zero) zero r x whole front back sum two none e =
    let set : r ≡ 1 = omega arith in rw set (ap (λ xs. x ∷ xs) e)
joined zero (suc zero) r x whole front back sum two none e =
    let set : r ≡ 1 = omega arith in
    let empty = none refl in
    rw set (ap (λ xs. x ∷ xs) (e ∙ ap (λ f. f ++ back) empty) ∙ ap (λ f. f ++ x ∷ back) (sym empty))
joined (suc p) (suc q) r x whole front back sum two none e = absurd (omega arith)
joined (suc (suc p)) zero r x whole front back sum two none e = absurd (omega arith)
joined zero (suc (suc q)) r x whole front back sum two none e = absurd (omega arith)

module _ (m a b : ℕ) (parts : (i : ℕ) → bit_at m i ≡ bit_at a i + bit_at b i)
    (below : (i k : ℕ) → bit_at a i ≡ 1 → bit_at b k ≡ 1 → i < k) where
  none_above : (x i : ℕ) → x < i → bit_at b x ≡ 1 → (bit_at a i ≡ 1) ⊎ (bit_at a i ≢ 1) → bit_at a i ≡ 0
  none_above x i lt set (inl one) = absurd (omega (arith, below i x one set))
  none_above x i lt set (inr not_one) = omega (arith, bit_at-lt a i)

  set_from_parts : (k x : ℕ) → set_from m k x ≡ set_from a k x ++ set_from b k x
  set_from_parts zero x = refl
  set_from_parts (suc k) x =
      let none = λ (set : bit_at b x ≡ 1). none_from a k (x + 1)
      (λ i le. none_above x i (omega arith) set (cases_eq (bit_at a i) 1)) in
      joined (bit_at a x) (bit_at b x) (bit_at m x) x _ _ _ (parts x) (bit_at-lt m x) none
      (set_from_parts k (x + 1))

  pub set_bits_from_parts : set_bits m ≡ set_bits a ++ set_bits b
  unfolding set_bits
  set_bits_from_parts = set_from_parts BITS 0

-- the first n of a list, or all of it where it is shorter, and the rest
pub front_and_back : (n : ℕ) (front back : List ℕ) → length front ≡ min n (length (front ++ back))
    → (front ≡ take n (front ++ back)) × (back ≡ drop n (front ++ back))
front_and_back zero [] back long = (refl, refl)
front_and_back (suc n) [] [] long = (refl, refl)
front_and_back (suc n) [] (x ∷ back) long = absurd (omega arith)
front_and_back zero (x ∷ front) back long = absurd (omega arith)
front_and_back (suc n) (x ∷ front) back long =
    let rest = front_and_back n front back (omega arith) in (ap (λ xs. x ∷ xs) rest.0, rest.1)
