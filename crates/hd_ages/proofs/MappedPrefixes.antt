-- A list whose first members are mapped, and the ages of whose first blocks are raised.
use Rattle.hd_ages.proofs.Basics.{All, AreAbove, CLUMPS, List, [], add-one, ap, append-nil, arith, cases_lt, drop, drop-append-add, drop-append_seam, drop-drop, drop-length, get_or, grown, grown_at, inl, inr, length, length-map, length-take, map, map-append, min, raised, refl, set, subst, suc, sym, take, take-add, take-append_seam, take-length, zero, ℕ, ◌*◌, ◌++◌, ◌+◌, ◌-◌, ◌<◌, ◌∙◌, ◌∷◌, ◌≡◌, ◌≤◌}
use Rattle.hd_model.proofs.IdleCollection.{raised_older}
use Rattle.hd_ages.proofs.AgeWord.{raised_up}

-- the first i members are mapped
abbrev pub mapped_to : {A : Type 0} → (A → A) → ℕ → List A → List A
mapped_to f i xs = map f (take i xs) ++ drop i xs

module _ {A : Type 0} (f : A → A) where
  pub mapped_none : (xs : List A) → mapped_to f 0 xs ≡ xs
  mapped_none [] = refl
  mapped_none (x ∷ xs) = refl

  pub mapped_all : (xs : List A) (i : ℕ) → i ≡ length xs → mapped_to f i xs ≡ map f xs
  mapped_all xs i e =
      ap (λ k. mapped_to f k xs) e
      ∙ (λ j. map f (take-length xs j) ++ drop-length xs j) ∙ append-nil (map f xs)

  next_by : (xs : List A) (i : ℕ) (d : A) → i < length xs
      → set (mapped_to f i xs) i (f (get_or xs i d)) ≡ mapped_to f (suc i) xs
  next_by [] i d l = absurd (omega arith)
  next_by (x ∷ xs) zero d l = refl
  next_by (x ∷ xs) (suc i) d l = ap (λ ys. f x ∷ ys) (next_by xs i d (omega arith))

  pub mapped_next : (xs : List A) (i : ℕ) (d : A) → i < length xs
      → set (mapped_to f i xs) i (f (get_or xs i d)) ≡ mapped_to f (i + 1) xs
  mapped_next xs i d l = next_by xs i d l ∙ ap (λ k. mapped_to f k xs) (sym (add-one i))

  pub mapped_at : (xs : List A) (i : ℕ) (d : A) → i < length xs
      → get_or (mapped_to f i xs) i d ≡ get_or xs i d
  mapped_at [] i d l = absurd (omega arith)
  mapped_at (x ∷ xs) zero d l = refl
  mapped_at (x ∷ xs) (suc i) d l = mapped_at xs i d (omega arith)

  pub mapped_past : (xs : List A) (i k : ℕ) (d : A) → i ≤ k → get_or (mapped_to f i xs) k d ≡ get_or xs k d
  mapped_past [] zero k d le = refl
  mapped_past [] (suc i) k d le = refl
  mapped_past (x ∷ xs) zero k d le = refl
  mapped_past (x ∷ xs) (suc i) zero d le = absurd (omega arith)
  mapped_past (x ∷ xs) (suc i) (suc k) d le = mapped_past xs i k d (omega arith)

  -- members that stay may be mapped too
  pub mapped_on : (xs : List A) (i j : ℕ) (d : A) → i ≤ j → j ≤ length xs
      → ((k : ℕ) → i ≤ k → k < j → f (get_or xs k d) ≡ get_or xs k d) → mapped_to f i xs ≡ mapped_to f j xs
  mapped_on xs zero zero d le fits still = refl
  mapped_on xs (suc i) zero d le fits still = absurd (omega arith)
  mapped_on [] i (suc j) d le fits still = absurd (omega arith)
  mapped_on (x ∷ xs) zero (suc j) d le fits still =
      let rest : mapped_to f zero xs ≡ mapped_to f j xs =
      mapped_on xs zero j d (omega arith) (omega arith)
      (λ k low high. still (suc k) (omega arith) (omega arith)) in
      let all : xs ≡ mapped_to f j xs = sym (mapped_none xs) ∙ rest in
      let here : x ≡ f x = sym (still zero (omega arith) (omega arith)) in
      λ t. here t ∷ all t
  mapped_on (x ∷ xs) (suc i) (suc j) d le fits still =
      ap (λ ys. f x ∷ ys) (mapped_on xs i j d (omega arith) (omega arith)
      (λ k low high. still (suc k) (omega arith) (omega arith)))

  pub length-mapped_to : (xs : List A) (i : ℕ) → length (mapped_to f i xs) ≡ length xs
  length-mapped_to [] zero = refl
  length-mapped_to [] (suc i) = refl
  length-mapped_to (x ∷ xs) zero = refl
  length-mapped_to (x ∷ xs) (suc i) = ap suc (length-mapped_to xs i)

-- with the ages of one block more
module _ (n k : ℕ) (ages : List ℕ) (l : k + CLUMPS ≤ length ages) where
  abbrev First : List ℕ
  First = map (raised n) (take k ages)

  first_length : length First ≡ k
  first_length = length-map (take k ages) (raised n) ∙ omega (arith, length-take k ages)

  taken : take k (mapped_to (raised n) k ages) ≡ First
  taken = subst (λ j. take j (First ++ drop k ages) ≡ First) first_length
      (take-append_seam First (drop k ages))

  dropped : drop k (mapped_to (raised n) k ages) ≡ drop k ages
  dropped =
      subst (λ j. drop j (First ++ drop k ages) ≡ drop k ages) first_length
      (drop-append_seam First (drop k ages))

  rest : drop (k + CLUMPS) (mapped_to (raised n) k ages) ≡ drop (k + CLUMPS) ages
  rest =
      subst (λ j. drop (j + CLUMPS) (First ++ drop k ages) ≡ drop CLUMPS (drop k ages)) first_length
      (drop-append-add First (drop k ages) CLUMPS) ∙ drop-drop CLUMPS k ages

  one_more : take k (mapped_to (raised n) k ages) ++ grown n
      (take CLUMPS (drop k (mapped_to (raised n) k ages)))
      ++ drop (k + CLUMPS) (mapped_to (raised n) k ages) ≡ mapped_to (raised n) (k + CLUMPS) ages
  one_more =
      let parts : take k (mapped_to (raised n) k ages)
      ++ grown n (take CLUMPS (drop k (mapped_to (raised n) k ages))) ++ drop (k + CLUMPS)
      (mapped_to (raised n) k ages)
      ≡ First ++ map (raised n) (take CLUMPS (drop k ages)) ++ drop (k + CLUMPS) ages =
      λ i. taken i ++ grown n (take CLUMPS (dropped i)) ++ rest i in
      parts ∙ ap (λ ys. ys ++ drop (k + CLUMPS) ages)
      (sym (map-append (raised n) (take k ages) (take CLUMPS (drop k ages)))
      ∙ ap (map (raised n)) (sym (take-add k CLUMPS ages)))

pub grown_next : (n block : ℕ) (ages : List ℕ) → CLUMPS * (block + 1) ≤ length ages
    → grown_at n (block + 1) (mapped_to (raised n) (CLUMPS * block) ages)
    ≡ mapped_to (raised n) (CLUMPS * (block + 1)) ages
grown_next n block ages l =
    let low : CLUMPS * (block + 1) - CLUMPS ≡ CLUMPS * block = omega arith in
    let high : CLUMPS * (block + 1) ≡ CLUMPS * block + CLUMPS = omega arith in
    let M : List ℕ = mapped_to (raised n) (CLUMPS * block) ages in
    let indexes : grown_at n (block + 1) M
    ≡ take (CLUMPS * block) M ++ grown n (take CLUMPS (drop (CLUMPS * block) M))
    ++ drop (CLUMPS * block + CLUMPS) M =
    λ i. take (low i) M ++ grown n (take CLUMPS (drop (low i) M)) ++ drop (high i) M in
    indexes ∙ one_more n (CLUMPS * block) ages (omega arith)
    ∙ ap (λ k. mapped_to (raised n) k ages) (sym high)

-- ages that a collection of generation n leaves, where those up to k grow
still : (n k a : ℕ) → k ≡ min n 1 → k < a → a ≤ 2 → raised n a ≡ a
still n k a is above small =
    elim (cases_lt n a) [
      | inl below ↦ raised_older n a below
      | inr le ↦
          let two : 2 ≡ a = omega (arith, is, above, small, le) in
          subst (λ x. raised n x ≡ x) two (raised_up n 2 (omega (arith, le, two)))
    ]

-- the ages of the blocks so far are raised, and those after them are as they were
module _ (n k after : ℕ) (ages : List ℕ) {now : List ℕ} (grows : k ≡ min n 1)
    (is : now ≡ mapped_to (raised n) (CLUMPS * after) ages) (small : All (λ a. a ≤ 2) now) where
  long : length now ≡ length ages
  long = ap length is ∙ length-mapped_to (raised n) ages (CLUMPS * after)

  stays : (to : ℕ) → to ≤ length now → AreAbove k now (CLUMPS * after) to → (i : ℕ) → CLUMPS * after ≤ i
      → i < to → raised n (get_or ages i 0) ≡ get_or ages i 0
  stays to fits above i low high =
      subst (λ a. raised n a ≡ a)
      (ap (λ xs. get_or xs i 0) is ∙ mapped_past (raised n) ages (CLUMPS * after) i 0 low)
      (still n k (get_or now i 0) grows (above i low high) (small i 0 (omega (arith, fits, high))))

  -- with the next block whose ages grow
  pub grown_past : {new : List ℕ} (block : ℕ) → after + 1 ≤ block → CLUMPS * block ≤ length now
      → AreAbove k now (CLUMPS * after) (CLUMPS * block - CLUMPS) → new ≡ grown_at n block now
      → new ≡ mapped_to (raised n) (CLUMPS * block) ages
  grown_past block later high above new_is =
      let one : block - 1 + 1 ≡ block = omega (arith, later) in
      let last : CLUMPS * block - CLUMPS ≡ CLUMPS * (block - 1) = omega (arith, later) in
      let before : mapped_to (raised n) (CLUMPS * after) ages ≡ mapped_to (raised n) (CLUMPS * (block - 1)) ages =
      mapped_on (raised n) ages (CLUMPS * after) (CLUMPS * (block - 1)) 0 (omega (arith, later))
      (omega (arith, high, long))
      (λ i low lt. stays (CLUMPS * block - CLUMPS) (omega (arith, high)) above i low (omega (arith, lt, last))) in
      new_is ∙ ap (grown_at n block) (is ∙ before)
      ∙ ap (λ b. grown_at n b (mapped_to (raised n) (CLUMPS * (block - 1)) ages)) (sym one)
      ∙ grown_next n (block - 1) ages (omega (arith, high, long, one))
      ∙ ap (λ b. mapped_to (raised n) (CLUMPS * b) ages) one

  -- none grows any more
  pub grown_rest : CLUMPS * after ≤ length now → AreAbove k now (CLUMPS * after) (length now) → now ≡ grown n ages
  grown_rest fits above =
      is ∙ mapped_on (raised n) ages (CLUMPS * after) (length ages) 0 (omega (arith, fits, long))
      (omega arith) (λ i low lt. stays (length now) (omega arith) above i low (omega (arith, lt, long)))
      ∙ mapped_all (raised n) ages (length ages) refl
