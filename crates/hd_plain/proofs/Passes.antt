-- A pass over keys, each of which is changed by itself: what a map has afterwards, what was counted, and what
-- was queued.
use Rattle.hd_model.proofs.Basics.{AllPairs, Bool, Contains, FinMap, List, Option, [], append-nil, append_assoc, ap, arith, cases_eq, cond, false, filter, get, inl, inr, length, map, nat_cmp, refl, subst, sym, true, ℕ, ⊎_elim, ◌++◌, ◌+◌, ◌∙◌, ◌∷◌, ◌≡◌, ◌≢◌, ◌≤◌, ◌⊎◌}
use Rattle.hd_model.proofs.Members.{first_in, later_in, member_cases, not_in_none, pairs_first, pairs_rest}
use Rattle.hd_plain.specs.Inside.{one_if, pass}

pub is_member : (xs : List ℕ) (k : ℕ) → Contains xs k ⊎ (Contains xs k → ⊥)
is_member [] k = inr (λ h. not_in_none k h)
is_member (x ∷ xs) k =
    ⊎_elim (λ same. inl (subst (λ z. Contains (x ∷ xs) z) same (first_in x xs)))
    (λ apart. ⊎_elim (λ later. inl (later_in x xs k later))
    (λ never. inr (λ h. ⊎_elim apart never (member_cases x xs k h))) (is_member xs k)) (cases_eq x k)

-- steps that are the same at each key of a list are one pass
pub pass_same : {S : Type 0} (f g : S → ℕ → S) (ks : List ℕ) → ((k : ℕ) → Contains ks k → (s : S) → f s k ≡ g s k)
    → (s : S) → pass f s ks ≡ pass g s ks
pass_same f g [] same s = refl
pass_same f g (k ∷ ks) same s =
    ap (λ z. pass f z ks) (same k (first_in k ks) s)
    ∙ pass_same f g ks (λ q h. same q (later_in k ks q h)) (g s k)

filter_like : (f g : ℕ → Bool) (xs : List ℕ) → ((x : ℕ) → Contains xs x → f x ≡ g x)
    → filter f xs ≡ filter g xs
filter_like f g [] same = refl
filter_like f g (x ∷ xs) same =
    let rest : filter f xs ≡ filter g xs = filter_like f g xs (λ y h. same y (later_in x xs y h)) in
    λ i. cond (same x (first_in x xs) i) (x ∷ rest i) (rest i)

length_case : (b : Bool) (x : ℕ) (xs : List ℕ) → length (cond b (x ∷ xs) xs) ≡ one_if b + length xs
length_case true x xs = omega arith
length_case false x xs = omega arith

-- what passes of a list is no longer than it
pub filter_short : (test : ℕ → Bool) (xs : List ℕ) → length (filter test xs) ≤ length xs
filter_short test [] = omega arith
filter_short test (x ∷ xs) =
    let rest : length (filter test xs) ≤ length xs = filter_short test xs in by (test x) rest
  where
    by : (b : Bool) → length (filter test xs) ≤ length xs
        → length (cond b (x ∷ filter test xs) (filter test xs)) ≤ length (x ∷ xs)
    by true rest = omega (arith, rest)
    by false rest = omega (arith, rest)

module _ {S A : Type 0} (read : S → FinMap nat_cmp A) (step : S → ℕ → S)
    (beside : (s : S) (k q : ℕ) → q ≢ k → get (read (step s k)) q ≡ get (read s) q) where
  not_passed : (s : S) (ks : List ℕ) (q : ℕ) → (Contains ks q → ⊥)
      → get (read (pass step s ks)) q ≡ get (read s) q
  not_passed s [] q never = refl
  not_passed s (k ∷ ks) q never =
      not_passed (step s k) ks q (λ later. never (later_in k ks q later))
      ∙ beside s k q (λ same. never (subst (λ z. Contains (k ∷ ks) z) (sym same) (first_in k ks)))

  -- a key after another is there as it was
  later_same : (s : S) (k : ℕ) (ks : List ℕ) → AllPairs (λ x y. x ≢ y) (k ∷ ks) → (q : ℕ) → Contains ks q
      → get (read (step s k)) q ≡ get (read s) q
  later_same s k ks apart q h =
      beside s k q (λ same. pairs_first (λ x y. x ≢ y) k ks apart q h (sym same))

  module _ (f : ℕ → Option A → Option A)
      (here : (s : S) (k : ℕ) → get (read (step s k)) k ≡ f k (get (read s) k)) where
    passed : (s : S) (ks : List ℕ) (q : ℕ) → AllPairs (λ x y. x ≢ y) ks → Contains ks q
        → get (read (pass step s ks)) q ≡ f q (get (read s) q)
    passed s [] q apart h = absurd (not_in_none q h)
    passed s (k ∷ ks) q apart h =
        ⊎_elim
        (λ same. subst (λ z. get (read (pass step (step s k) ks)) z ≡ f z (get (read s) z)) same
        (not_passed (step s k) ks k (λ again. pairs_first (λ x y. x ≢ y) k ks apart k again refl)
        ∙ here s k))
        (λ later. passed (step s k) ks q (pairs_rest (λ x y. x ≢ y) k ks apart) later
        ∙ ap (f q) (later_same s k ks apart q later)) (member_cases k ks q h)

    -- each key, where what is not in the list would stay
    pub after_pass : (s : S) (ks : List ℕ) → AllPairs (λ x y. x ≢ y) ks
        → ((q : ℕ) → (Contains ks q → ⊥) → f q (get (read s) q) ≡ get (read s) q) → (q : ℕ)
        → get (read (pass step s ks)) q ≡ f q (get (read s) q)
    after_pass s ks apart rest q =
        ⊎_elim (λ there. passed s ks q apart there) (λ never. not_passed s ks q never ∙ sym (rest q never))
        (is_member ks q)

  module _ (test : ℕ → Option A → Bool) where
    -- the keys that pass a test
    abbrev pub passing : S → List ℕ → List ℕ
    passing s ks = filter (λ q. test q (get (read s) q)) ks

    passing_later : (s : S) (k : ℕ) (ks : List ℕ) → AllPairs (λ x y. x ≢ y) (k ∷ ks)
        → passing (step s k) ks ≡ passing s ks
    passing_later s k ks apart =
        filter_like (λ q. test q (get (read (step s k)) q)) (λ q. test q (get (read s) q)) ks
        (λ q h. ap (test q) (later_same s k ks apart q h))

    -- a count of them
    pub count_after : (count : S → ℕ)
        → ((s : S) (k : ℕ) → count (step s k) ≡ count s + one_if (test k (get (read s) k))) → (s : S)
        → (ks : List ℕ) → AllPairs (λ x y. x ≢ y) ks
        → count (pass step s ks) ≡ count s + length (passing s ks)
    count_after count one s [] apart = omega arith
    count_after count one s (k ∷ ks) apart =
        let rest : count (pass step (step s k) ks) ≡ count (step s k) + length (passing (step s k) ks) =
        count_after count one (step s k) ks (pairs_rest (λ x y. x ≢ y) k ks apart) in
        let same : length (passing (step s k) ks) ≡ length (passing s ks) =
        ap length (passing_later s k ks apart) in
        let here : count (step s k) ≡ count s + one_if (test k (get (read s) k)) = one s k in
        let all : length (passing s (k ∷ ks)) ≡ one_if (test k (get (read s) k)) + length (passing s ks) =
        length_case (test k (get (read s) k)) k (passing s ks) in
        omega (arith, rest, same, here, all)

    -- a queue to which they are appended
    pub queue_after : {B : Type 0} (name : ℕ → B) (queue : S → List B)
        → ((s : S) (k : ℕ) → queue (step s k)
        ≡ cond (test k (get (read s) k)) (queue s ++ name k ∷ []) (queue s))
        → (s : S) (ks : List ℕ) → AllPairs (λ x y. x ≢ y) ks
        → queue (pass step s ks) ≡ queue s ++ map name (passing s ks)
    queue_after name queue one s [] apart = sym (append-nil (queue s))
    queue_after {B} name queue one s (k ∷ ks) apart =
        queue_after name queue one (step s k) ks (pairs_rest (λ x y. x ≢ y) k ks apart)
        ∙ (λ i. one s k i ++ map name (passing_later s k ks apart i))
        ∙ by (test k (get (read s) k)) (queue s) (passing s ks)
      where
        by : (b : Bool) (xs : List B) (ys : List ℕ)
            → cond b (xs ++ name k ∷ []) xs ++ map name ys ≡ xs ++ map name (cond b (k ∷ ys) ys)
        by true xs ys = append_assoc xs (name k ∷ []) (map name ys)
        by false xs ys = refl
