-- One list of roots as rows of 16 registers and the statics after them.
use Rattle.hd_store.proofs.StoreWords.{List, [], ap, arith, drop, drop-set-add, drop-set-lt, get_or, get_or-drop, get_or-take, refl, replicate, rest_of, rows_of, set, suc, take, take-set-le, zero, ℕ, ◌*◌, ◌+◌, ◌-◌, ◌<◌, ◌∙◌, ◌∷◌, ◌≡◌}
use Rattle.std.proofs.Math.Seq.{take-set-lt}
use Rattle.std.proofs.lemmas.List.{drop-drop}
use Rattle.hd_model.specs.declared.limits.TheConstants.{REGISTERS}

module _ {A : Type 0} where
  -- register d of caller c is at 16 * c + d, and static k at 16 * n + k
  pub rows-get : (n c d i : ℕ) (xs : List A) (e : A) → i ≡ REGISTERS * c + d → c < n → d < REGISTERS
      → get_or (get_or (rows_of n xs) c []) d e ≡ get_or xs i e
  unfolding rows_of
  rows-get zero c d i xs e at known within = absurd (omega arith)
  rows-get (suc n) zero d i xs e at known within =
      get_or-take REGISTERS xs d e within ∙ ap (λ j. get_or xs j e) (omega arith)
  rows-get (suc n) (suc c) d i xs e at known within =
      rows-get n c d (i - REGISTERS) (drop REGISTERS xs) e (omega arith) (omega arith) within ∙ get_or-drop
      REGISTERS xs (i - REGISTERS) e
      ∙ ap (λ j. get_or xs j e) (omega arith)

  pub rest-get : (n k i : ℕ) (xs : List A) (e : A) → i ≡ REGISTERS * n + k
      → get_or (rest_of n xs) k e ≡ get_or xs i e
  unfolding rest_of
  rest-get zero k i xs e at = ap (λ j. get_or xs j e) (omega arith)
  rest-get (suc n) k i xs e at =
      rest-get n k (i - REGISTERS) (drop REGISTERS xs) e (omega arith) ∙ get_or-drop REGISTERS xs
      (i - REGISTERS) e
      ∙ ap (λ j. get_or xs j e) (omega arith)

  -- the statics are what is left without the registers
  pub rest-drop : (n : ℕ) (xs : List A) → rest_of n xs ≡ drop (REGISTERS * n) xs
  unfolding rest_of
  rest-drop zero xs = refl
  rest-drop (suc n) xs =
      let more : REGISTERS + REGISTERS * n ≡ REGISTERS * suc n = omega arith in
      rest-drop n (drop REGISTERS xs) ∙ drop-drop (REGISTERS * n) REGISTERS xs ∙ ap (λ k. drop k xs) more

  -- a register is written
  pub rows-set : (n c d i : ℕ) (xs : List A) (v : A) → i ≡ REGISTERS * c + d → c < n → d < REGISTERS
      → rows_of n (set xs i v) ≡ set (rows_of n xs) c (set (get_or (rows_of n xs) c []) d v)
  unfolding rows_of
  rows-set zero c d i xs v at known within = absurd (omega arith)
  rows-set (suc n) zero d i xs v at known within =
      let here : i ≡ d = omega arith in
      ap (λ j. rows_of (suc n) (set xs j v)) here
      ∙ (λ k. take-set-lt REGISTERS xs d v within k ∷ rows_of n (drop-set-lt REGISTERS xs d v within k))
  rows-set (suc n) (suc c) d i xs v at known within =
      let here : i ≡ REGISTERS + (i - REGISTERS) = omega arith in
      ap (λ j. rows_of (suc n) (set xs j v)) here
      ∙ (λ k. take-set-le REGISTERS xs (REGISTERS + (i - REGISTERS)) v (omega arith) k ∷ rows_of n
      (drop-set-add REGISTERS xs (i - REGISTERS) v k))
      ∙ ap (λ rows. take REGISTERS xs ∷ rows)
      (rows-set n c d (i - REGISTERS) (drop REGISTERS xs) v (omega arith) (omega arith) within)

  pub rest-set_row : (n c d i : ℕ) (xs : List A) (v : A) → i ≡ REGISTERS * c + d → c < n → d < REGISTERS
      → rest_of n (set xs i v) ≡ rest_of n xs
  unfolding rest_of
  rest-set_row zero c d i xs v at known within = absurd (omega arith)
  rest-set_row (suc n) zero d i xs v at known within = ap (rest_of n)
      (drop-set-lt REGISTERS xs i v (omega arith))
  rest-set_row (suc n) (suc c) d i xs v at known within =
      let here : i ≡ REGISTERS + (i - REGISTERS) = omega arith in
      ap (λ j. rest_of (suc n) (set xs j v)) here ∙ ap (rest_of n)
      (drop-set-add REGISTERS xs (i - REGISTERS) v)
      ∙ rest-set_row n c d (i - REGISTERS) (drop REGISTERS xs) v (omega arith) (omega arith) within

  -- a static is written
  pub rest-set : (n k i : ℕ) (xs : List A) (v : A) → i ≡ REGISTERS * n + k
      → rest_of n (set xs i v) ≡ set (rest_of n xs) k v
  unfolding rest_of
  rest-set zero k i xs v at = ap (λ j. set xs j v) (omega arith)
  rest-set (suc n) k i xs v at =
      let here : i ≡ REGISTERS + (i - REGISTERS) = omega arith in
      ap (λ j. rest_of (suc n) (set xs j v)) here ∙ ap (rest_of n)
      (drop-set-add REGISTERS xs (i - REGISTERS) v)
      ∙ rest-set n k (i - REGISTERS) (drop REGISTERS xs) v (omega arith)

  pub rows-set_rest : (n k i : ℕ) (xs : List A) (v : A) → i ≡ REGISTERS * n + k
      → rows_of n (set xs i v) ≡ rows_of n xs
  unfolding rows_of
  rows-set_rest zero k i xs v at = refl
  rows-set_rest (suc n) k i xs v at =
      let here : i ≡ REGISTERS + (i - REGISTERS) = omega arith in
      ap (λ j. rows_of (suc n) (set xs j v)) here
      ∙ (λ k. take-set-le REGISTERS xs (REGISTERS + (i - REGISTERS)) v (omega arith) k ∷ rows_of n
      (drop-set-add REGISTERS xs (i - REGISTERS) v k))
      ∙ ap (λ rows. take REGISTERS xs ∷ rows)
      (rows-set_rest n k (i - REGISTERS) (drop REGISTERS xs) v (omega arith))

  -- all roots are the same at first
  take-same : (k n m : ℕ) (x : A) → m ≡ k + n → take k (replicate m x) ≡ replicate k x
  take-same zero n m x at = refl
  take-same (suc k) n zero x at = absurd (omega arith)
  take-same (suc k) n (suc m) x at = ap (λ xs. x ∷ xs) (take-same k n m x (omega arith))

  drop-same : (k n m : ℕ) (x : A) → m ≡ k + n → drop k (replicate m x) ≡ replicate n x
  drop-same zero n m x at = ap (λ j. replicate j x) (omega arith)
  drop-same (suc k) n zero x at = absurd (omega arith)
  drop-same (suc k) n (suc m) x at = drop-same k n m x (omega arith)

  pub rows-first : (n m i : ℕ) (x : A) → i ≡ REGISTERS * n + m
      → rows_of n (replicate i x) ≡ replicate n (replicate REGISTERS x)
  unfolding rows_of
  rows-first zero m i x at = refl
  rows-first (suc n) m i x at =
      (λ k. take-same REGISTERS (i - REGISTERS) i x (omega arith) k ∷ rows_of n
      (drop-same REGISTERS (i - REGISTERS) i x (omega arith) k))
      ∙ ap (λ rows. replicate REGISTERS x ∷ rows) (rows-first n m (i - REGISTERS) x (omega arith))

  pub rest-first : (n m i : ℕ) (x : A) → i ≡ REGISTERS * n + m → rest_of n (replicate i x) ≡ replicate m x
  unfolding rest_of
  rest-first zero m i x at = ap (λ j. replicate j x) (omega arith)
  rest-first (suc n) m i x at =
      ap (rest_of n) (drop-same REGISTERS (i - REGISTERS) i x (omega arith)) ∙ rest-first n m (i - REGISTERS)
      x (omega arith)
