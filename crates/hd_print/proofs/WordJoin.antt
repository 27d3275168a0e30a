-- Words that are joined by blanks, one after another.
use Rattle.hd_print.proofs.Basics.{List, [], ap, append_assoc, get_or, join_with_byte, length, map, map_push, refl, sym, take, take_more, ℕ, ◌++◌, ◌+◌, ◌<◌, ◌∙◌, ◌∷◌, ◌≡◌}

-- one word more at the end
joined_push : (c : ℕ) (first : List ℕ) (words : List (List ℕ)) (word : List ℕ) →
    join_with_byte c (first ∷ (words ++ word ∷ [])) ≡ join_with_byte c (first ∷ words) ++ c ∷ word
joined_push c first [] word = refl
joined_push c first (next ∷ words) word =
    ap (λ (t : List ℕ). first ++ c ∷ t) (joined_push c next words word)
    ∙ sym (append_assoc first (c ∷ join_with_byte c (next ∷ words)) (c ∷ word))

-- the same, after the words of the first elements of a list
pub joined_more : {A : Type 0} (c : ℕ) (first : List ℕ) (f : A → List ℕ) (xs : List A) (i : ℕ) (d : A)
    → i < length xs →
    join_with_byte c (first ∷ map f (take (i + 1) xs)) ≡ join_with_byte c (first ∷ map f (take i xs)) ++ c
    ∷ f (get_or xs i d)
joined_more c first f xs i d within =
    ap (λ ys. join_with_byte c (first ∷ map f ys)) (take_more xs i d within)
    ∙ ap (λ (words : List (List ℕ)). join_with_byte c (first ∷ words))
    (map_push f (take i xs) (get_or xs i d)) ∙ joined_push c first (map f (take i xs)) (f (get_or xs i d))

-- a line of such words, and a blank and the next word after it
pub joined_step : {A : Type 0} (c : ℕ) (first : List ℕ) (f : A → List ℕ) (xs : List A) (i : ℕ) (d : A)
    (start line new : List ℕ) → i < length xs
    → line ≡ start ++ join_with_byte c (first ∷ map f (take i xs)) → new ≡ line ++ c ∷ f (get_or xs i d)
    → new ≡ start ++ join_with_byte c (first ∷ map f (take (i + 1) xs))
joined_step c first f xs i d start line new within a e =
    let so_far = join_with_byte c (first ∷ map f (take i xs)) in
    let word = c ∷ f (get_or xs i d) in
    e ∙ ap (λ (t : List ℕ). t ++ word) a ∙ append_assoc start so_far word
    ∙ ap (λ (t : List ℕ). start ++ t) (sym (joined_more c first f xs i d within))
