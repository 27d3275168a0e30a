-- Words that are texts of identities.
use Rattle.std.proofs.Common.{List, [], ap, append_assoc, arith, cond, drop, eqb, leb, length, length-append, ne_eqb, not, refl, suc, take, true, ℕ, ◌++◌, ◌+◌, ◌<◌, ◌^◌, ◌∙◌, ◌∷◌, ◌≡◌, ◌≤◌}
use Rattle.std.specs.Prelude.{codes, decimal}
use Rattle.std.specs.List.{after_first, before_first, list_all, position_or_len}
use Rattle.std.proofs.lemmas.Bool.{and_parts, leb-true}
use Rattle.hd_print.proofs.Numerals.{digit_bytes}

-- the first dot after bytes above it
dot_after : (xs ys : List ℕ) → list_all (λ b. leb 47 b) xs ≡ true
    → position_or_len (λ b. eqb b 46) (xs ++ 46 ∷ ys) ≡ length xs
dot_after [] ys all = refl
dot_after (x ∷ xs) ys all =
    let parts = and_parts (leb 47 x) (list_all (λ b. leb 47 b) xs) all in
    let above : 47 ≤ x = leb-true 47 x parts.0 in
    let apart : x ≡ 46 → ⊥ = λ same. omega (arith, above, same) in
    let rest = dot_after xs ys parts.1 in
    let first = ap (λ t. cond (not t) (1 + position_or_len (λ b. eqb b 46) (xs ++ 46 ∷ ys)) 0)
    (ne_eqb x 46 apart) in
    first ∙ omega (arith, rest)

taken : (xs ys : List ℕ) → take (length xs) (xs ++ ys) ≡ xs
taken [] ys = refl
taken (x ∷ xs) ys = ap (λ (l : List ℕ). x ∷ l) (taken xs ys)

dropped : (xs : List ℕ) (y : ℕ) (ys : List ℕ) (n : ℕ) → n ≡ length xs + 1 → drop n (xs ++ y ∷ ys) ≡ ys
dropped [] y ys n same = ap (λ m. drop m (y ∷ ys)) same
dropped (x ∷ xs) y ys n same =
    let more : n ≡ suc (length xs + 1) = omega (arith, same) in
    ap (λ m. drop m (x ∷ xs ++ y ∷ ys)) more ∙ dropped xs y ys (length xs + 1) refl

-- the parts of the text of an identity
module _ (a b : ℕ) (small : a < 2 ^ 64) (word : List ℕ) (is : word ≡ decimal a ++ codes "." ++ decimal b)
  where
    whole : word ≡ decimal a ++ 46 ∷ decimal b
    whole = is ∙ append_assoc (decimal a) (codes ".") (decimal b)

    dot_at : position_or_len (λ c. eqb c 46) word ≡ length (decimal a)
    dot_at = ap (position_or_len (λ c. eqb c 46)) whole
        ∙ dot_after (decimal a) (decimal b) (digit_bytes 47 (omega arith) a small)

    pub has_dot : position_or_len (λ c. eqb c 46) word < length word
    has_dot = omega (arith, dot_at, ap length whole, length-append (decimal a) (46 ∷ decimal b))

    pub first_part : before_first (λ c. eqb c 46) word ≡ decimal a
    first_part = ap (λ n. take n word) dot_at ∙ ap (take (length (decimal a))) whole
        ∙ taken (decimal a) (46 ∷ decimal b)

    pub last_part : after_first (λ c. eqb c 46) word ≡ decimal b
    last_part = ap (drop (position_or_len (λ c. eqb c 46) word + 1)) whole
        ∙ dropped (decimal a) 46 (decimal b) (position_or_len (λ c. eqb c 46) word + 1)
        (ap (λ n. n + 1) dot_at)
