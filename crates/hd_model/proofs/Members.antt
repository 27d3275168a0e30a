-- Members of lists: of a list by cases, of what a map gives, of rows joined, and of lists that rise.
use Rattle.hd_model.proofs.Basics.{AllPairs, Bool, Contains, Contains-append_cases, Contains-append_left, Contains-append_right, List, [], ap, arith, cond, cond_both, false, filter, get_or, get_or_default, inl, inr, joined, length, map, refl, subst, suc, sym, true, zero, ℕ, ⊎_elim, ◌++◌, ◌<◌, ◌∙◌, ◌∷◌, ◌≡◌, ◌⊎◌}

module _ {A : Type 0} where
  pub not_in_none : (x : A) → Contains [] x → ⊥
  not_in_none x h = let l = h.1 in omega arith

  pub first_in : (x : A) (xs : List A) → Contains (x ∷ xs) x
  first_in x xs = (0, omega arith, refl)

  pub later_in : (y : A) (xs : List A) (x : A) → Contains xs x → Contains (y ∷ xs) x
  later_in y xs x h = let l = h.1 in (suc h.0, omega arith, h.2)

  in_place : (y : A) (xs : List A) (x : A) (k : ℕ) → k < length (y ∷ xs) → get_or (y ∷ xs) k x ≡ x → (y ≡ x)
      ⊎ Contains xs x
  in_place y xs x zero l e = inl e
  in_place y xs x (suc k) l e = inr (k, omega arith, e)

  -- a member is the first or a later one
  pub member_cases : (y : A) (xs : List A) (x : A) → Contains (y ∷ xs) x → (y ≡ x) ⊎ Contains xs x
  member_cases y xs x h = in_place y xs x h.0 h.1 h.2

  pub member_same : (xs ys : List A) → xs ≡ ys → (x : A) → Contains xs x → Contains ys x
  member_same xs ys e x h = subst (λ zs. Contains zs x) e h

  -- what is at an index within a list is a member
  pub member_at : (xs : List A) (i : ℕ) (d x : A) → i < length xs → get_or xs i d ≡ x → Contains xs x
  member_at xs i d x l e = (i, l, get_or_default xs i x d l ∙ e)

  -- a list with a member is what comes before it, it, and what comes after it
  pub split_at : (xs : List A) (x : A) → Contains xs x → (before : List A)
      × ((after : List A) × (xs ≡ before ++ x ∷ after))
  split_at [] x h = absurd (not_in_none x h)
  split_at (y ∷ xs) x h =
      ⊎_elim (λ e. ([], (xs, ap (λ z. z ∷ xs) e)))
      (λ later. let (before, rest) = split_at xs x later in (y ∷ before, (rest.0, ap (λ zs. y ∷ zs) rest.1)))
      (member_cases y xs x h)

  -- a relation of all pairs holds of the first with each later one, and among the later ones
  pub pairs_first : (R : A → A → Type 0) (x : A) (xs : List A) → AllPairs R (x ∷ xs) → (y : A) → Contains xs y
      → R x y
  pairs_first R x xs pairs y h =
      let l = h.1 in subst (λ z. R x z) h.2 (pairs 0 (suc h.0) y (omega arith) (omega arith))

  pub pairs_rest : (R : A → A → Type 0) (x : A) (xs : List A) → AllPairs R (x ∷ xs) → AllPairs R xs
  pairs_rest R x xs pairs = λ i j d l h. pairs (suc i) (suc j) d (omega arith) (omega arith)

  pub pairs_none : (R : A → A → Type 0) → AllPairs R []
  pairs_none R = λ i j d l h. absurd (omega arith)

  pairs_at : (R : A → A → Type 0) (x : A) (xs : List A) → ((y : A) → Contains xs y → R x y) → AllPairs R xs
      → (i j : ℕ) (d : A) → i < j → j < length (x ∷ xs) → R (get_or (x ∷ xs) i d) (get_or (x ∷ xs) j d)
  pairs_at R x xs first rest i zero d l h = absurd (omega arith)
  pairs_at R x xs first rest zero (suc j) d l h =
      let inside : j < length xs = omega arith in first (get_or xs j d) (member_at xs j d _ inside refl)
  pairs_at R x xs first rest (suc i) (suc j) d l h = rest i j d (omega arith) (omega arith)

  pub pairs_cons : (R : A → A → Type 0) (x : A) (xs : List A) → ((y : A) → Contains xs y → R x y)
      → AllPairs R xs → AllPairs R (x ∷ xs)
  pairs_cons R x xs first rest = pairs_at R x xs first rest

  -- all pairs of two lists joined: those of each, and those across
  pub pairs_append : (R : A → A → Type 0) (xs ys : List A) → AllPairs R xs → AllPairs R ys
      → ((x y : A) → Contains xs x → Contains ys y → R x y) → AllPairs R (xs ++ ys)
  pairs_append R [] ys left right across = right
  pairs_append R (x ∷ xs) ys left right across =
      pairs_cons R x (xs ++ ys)
      (λ y h. ⊎_elim (λ inside. pairs_first R x xs left y inside)
      (λ beyond. across x y (first_in x xs) beyond)
      (Contains-append_cases xs ys y h))
      (pairs_append R xs ys (pairs_rest R x xs left) right (λ a b h k. across a b (later_in x xs a h) k))

  pub pairs_like : (R S : A → A → Type 0) (xs : List A) → ((x y : A) → R x y → S x y) → AllPairs R xs
      → AllPairs S xs
  pairs_like R S xs turn pairs = λ i j d l h. turn _ _ (pairs i j d l h)

  -- the same, where only members count
  pub pairs_among : (R S : A → A → Type 0) (xs : List A)
      → ((x y : A) → Contains xs x → Contains xs y → R x y → S x y) → AllPairs R xs → AllPairs S xs
  pairs_among R S xs turn pairs = λ i j d l h.
      let low : i < length xs = omega arith in
      turn (get_or xs i d) (get_or xs j d) (member_at xs i d _ low refl) (member_at xs j d _ h refl)
      (pairs i j d l h)

-- a list rises strictly by a number of its members
abbrev pub Rises : {A : Type 0} → (A → ℕ) → List A → Type 0
Rises rank xs = AllPairs (λ x y. rank x < rank y) xs

module _ {A : Type 0} (rank : A → ℕ) where
  -- of the rest of a list that rises, each member is among those of another but for its first
  rest_within : (x y : A) (xs ys : List A) → x ≡ y → Rises rank (x ∷ xs)
      → ((z : A) → Contains (x ∷ xs) z → Contains (y ∷ ys) z) → (z : A) → Contains xs z → Contains ys z
  rest_within x y xs ys same rising within z h =
      let above : rank x < rank z = pairs_first (λ a b. rank a < rank b) x xs rising z h in
      ⊎_elim (λ e. let tied : rank x ≡ rank z = ap rank (same ∙ e) in absurd (omega arith)) (λ later. later)
      (member_cases y ys z (within z (later_in x xs z h)))

  -- two lists that rise strictly and have the same members are equal
  pub rising_once : (xs ys : List A) → Rises rank xs → Rises rank ys
      → ((z : A) → Contains xs z → Contains ys z) → ((z : A) → Contains ys z → Contains xs z) → xs ≡ ys
  rising_once [] [] a b to back = refl
  rising_once [] (y ∷ ys) a b to back = absurd (not_in_none y (back y (first_in y ys)))
  rising_once (x ∷ xs) [] a b to back = absurd (not_in_none x (to x (first_in x xs)))
  rising_once (x ∷ xs) (y ∷ ys) a b to back =
      let later_x : Contains ys x → rank y < rank x = pairs_first (λ p q. rank p < rank q) y ys b x in
      let later_y : Contains xs y → rank x < rank y = pairs_first (λ p q. rank p < rank q) x xs a y in
      let first : x ≡ y =
      ⊎_elim (λ e. sym e)
      (λ in_ys. ⊎_elim (λ e. e) (λ in_xs. let p = later_x in_ys in let q = later_y in_xs in
      absurd (omega arith))
      (member_cases x xs y (back y (first_in y ys))))
      (member_cases y ys x (to x (first_in x xs))) in
      let rest : xs ≡ ys =
      rising_once xs ys (pairs_rest (λ p q. rank p < rank q) x xs a)
      (pairs_rest (λ p q. rank p < rank q) y ys b)
      (rest_within x y xs ys first a to) (rest_within y x ys xs (sym first) b back) in
      λ i. first i ∷ rest i

-- a member of a mapped list is what a member is mapped to
pub mapped_in : {A B : Type 0} (f : A → B) (xs : List A) (x : A) → Contains xs x → Contains (map f xs) (f x)
mapped_in f [] x h = absurd (not_in_none x h)
mapped_in f (y ∷ xs) x h =
    ⊎_elim (λ e. subst (λ z. Contains (map f (y ∷ xs)) (f z)) e (first_in (f y) (map f xs)))
    (λ later. later_in (f y) (map f xs) (f x) (mapped_in f xs x later)) (member_cases y xs x h)

pub mapped_from : {A B : Type 0} (f : A → B) (xs : List A) (y : B) → Contains (map f xs) y → (x : A)
    × (Contains xs x × (f x ≡ y))
mapped_from f [] y h = absurd (not_in_none y h)
mapped_from f (x ∷ xs) y h =
    ⊎_elim (λ e. (x, (first_in x xs, e)))
    (λ later. let (z, rest) = mapped_from f xs y later in (z, (later_in x xs z rest.0, rest.1)))
    (member_cases (f x) (map f xs) y h)

-- a member of a row is one of all rows joined
pub joined_in : {A : Type 0} (rows : List (List A)) (row : List A) (x : A) → Contains rows row
    → Contains row x → Contains (joined rows) x
joined_in [] row x h k = absurd (not_in_none row h)
joined_in (first ∷ rows) row x h k =
    ⊎_elim (λ e. Contains-append_left first (joined rows) x (member_same row first (sym e) x k))
    (λ later. Contains-append_right first (joined rows) x (joined_in rows row x later k))
    (member_cases first rows row h)

pub joined_from : {A : Type 0} (rows : List (List A)) (x : A) → Contains (joined rows) x → (row : List A)
    × (Contains rows row × Contains row x)
joined_from [] x h = absurd (not_in_none x h)
joined_from (first ∷ rows) x h =
    ⊎_elim (λ inside. (first, (first_in first rows, inside)))
    (λ beyond. let (row, rest) = joined_from rows x beyond in (row, (later_in first rows row rest.0, rest.1)))
    (Contains-append_cases first (joined rows) x h)

-- all pairs of a mapped list, and of a filtered one; a member of a filtered list is one that passes
pub pairs_mapped : {A B : Type 0} (R : A → A → Type 0) (S : B → B → Type 0) (f : A → B) (xs : List A)
    → ((x y : A) → R x y → S (f x) (f y)) → AllPairs R xs → AllPairs S (map f xs)
pairs_mapped R S f [] turn pairs = pairs_none S
pairs_mapped R S f (x ∷ xs) turn pairs =
    pairs_cons S (f x) (map f xs)
    (λ b h. let (y, rest) = mapped_from f xs b h in
    subst (λ z. S (f x) z) rest.1 (turn x y (pairs_first R x xs pairs y rest.0)))
    (pairs_mapped R S f xs turn (pairs_rest R x xs pairs))

module _ {A : Type 0} (p : A → Bool) where
  passing_step : (y : A) (xs ys : List A) (x : A) → (Contains ys x → Contains xs x × (p x ≡ true))
      → (b : Bool) → p y ≡ b → Contains (cond b (y ∷ ys) ys) x → Contains (y ∷ xs) x × (p x ≡ true)
  passing_step y xs ys x rest true e h =
      ⊎_elim (λ same. (subst (λ z. Contains (y ∷ xs) z) same (first_in y xs), subst (λ z. p z ≡ true) same e))
      (λ later. let (inside, passes) = rest later in (later_in y xs x inside, passes)) (member_cases y ys x h)
  passing_step y xs ys x rest false e h = let (inside, passes) = rest h in (later_in y xs x inside, passes)

  pub passing_from : (xs : List A) (x : A) → Contains (filter p xs) x → Contains xs x × (p x ≡ true)
  passing_from [] x h = absurd (not_in_none x h)
  passing_from (y ∷ xs) x h = passing_step y xs (filter p xs) x (passing_from xs x) (p y) refl h

  pub passing_in : (xs : List A) (x : A) → Contains xs x → p x ≡ true → Contains (filter p xs) x
  passing_in [] x h passes = absurd (not_in_none x h)
  passing_in (y ∷ xs) x h passes =
      ⊎_elim
      (λ same. member_same (y ∷ filter p xs) _
      (sym (ap (λ q. cond q (y ∷ filter p xs) (filter p xs)) (ap p same ∙ passes))) x
      (subst (λ z. Contains (y ∷ filter p xs) z) same (first_in y (filter p xs))))
      (λ later. cond_both (p y) (y ∷ filter p xs) (filter p xs) (λ zs. Contains zs x)
      (λ _. later_in y (filter p xs) x (passing_in xs x later passes)) (λ _. passing_in xs x later passes))
      (member_cases y xs x h)

  pub pairs_passing : (R : A → A → Type 0) (xs : List A) → AllPairs R xs → AllPairs R (filter p xs)
  pairs_passing R [] pairs = pairs_none R
  pairs_passing R (x ∷ xs) pairs =
      let rest : AllPairs R (filter p xs) = pairs_passing R xs (pairs_rest R x xs pairs) in
      cond_both (p x) (x ∷ filter p xs) (filter p xs) (λ zs. AllPairs R zs)
      (λ _. pairs_cons R x (filter p xs) (λ y h. pairs_first R x xs pairs y (passing_from xs y h).0) rest)
      (λ _. rest)
