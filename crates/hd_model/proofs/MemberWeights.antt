-- Members of a list that are apart weigh at most as much as the list.
use Rattle.hd_model.proofs.Basics.{AllPairs, Contains, Contains-append_cases, Contains-append_left, Contains-append_right, List, [], ap, arith, length, refl, sum_by, sum_by-append, sum_by-cons, ℕ, ⊎_elim, ◌++◌, ◌∷◌, ◌≡◌, ◌≢◌, ◌≤◌}
use Rattle.hd_model.proofs.Members.{first_in, later_in, member_cases, member_same, split_at, pairs_first, pairs_rest}

-- members that are apart and are in another list weigh at most as much as all of that
pub lighter : {A : Type 0} (w : A → ℕ) (xs ys : List A) → AllPairs (λ x y. x ≢ y) xs
    → ((x : A) → Contains xs x → Contains ys x) → sum_by w xs ≤ sum_by w ys
lighter w [] ys apart within = omega arith
lighter {A} w (x ∷ xs) ys apart within =
    let (before, rest) = split_at ys x (within x (first_in x xs)) in
    let after = rest.0 in
    let others : (z : A) → Contains xs z → Contains (before ++ after) z =
    λ z h. ⊎_elim (λ early. Contains-append_left before after z early)
    (λ late. ⊎_elim (λ e. absurd (pairs_first (λ a b. a ≢ b) x xs apart z h e))
    (λ beyond. Contains-append_right before after z beyond)
    (member_cases x after z late))
    (Contains-append_cases before (x ∷ after) z
    (member_same ys (before ++ x ∷ after) rest.1 z (within z (later_in x xs z h)))) in
    let short : sum_by w xs ≤ sum_by w (before ++ after) =
    lighter w xs (before ++ after) (pairs_rest (λ a b. a ≢ b) x xs apart) others in
    let whole : sum_by w ys ≡ sum_by w (before ++ x ∷ after) = ap (sum_by w) rest.1 in
    let known = sum_by-append w before (x ∷ after) in
    omega (arith, sum_by-cons w x xs, sum_by-append w before after, known, sum_by-cons w x after)

-- where each weighs 1, a list weighs its length
pub sum_ones : {A : Type 0} (xs : List A) → sum_by (λ _. 1) xs ≡ length xs
sum_ones [] = refl
sum_ones (x ∷ xs) = omega (arith, sum_by-cons (λ _. 1) x xs, sum_ones xs)
