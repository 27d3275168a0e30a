-- Blanks behind a line, one after another.
use Rattle.std.proofs.Common.{List, [], ap, append_assoc, arith, length, sym, ℕ, ◌++◌, ◌+◌, ◌-◌, ◌∙◌, ◌∷◌, ◌≡◌, ◌≤◌}
use Rattle.std.specs.Prelude.{max, replicate}
use Rattle.std.proofs.lemmas.List.{append-nil, replicate_more}

pub blanks_none : (line : List ℕ) (k : ℕ) → k ≡ length line → line ≡ line ++ replicate (k - length line) 32
blanks_none line k e =
    let none : k - length line ≡ 0 = omega arith in
    sym (ap (λ j. line ++ replicate j 32) none ∙ append-nil line)

pub blanks_more : (line now : List ℕ) (k : ℕ) → length line ≤ k → now ≡ line ++ replicate (k - length line) 32
    → now ++ 32 ∷ [] ≡ line ++ replicate (k + 1 - length line) 32
blanks_more line now k low is =
    let more : k - length line + 1 ≡ k + 1 - length line = omega arith in
    ap (λ xs. xs ++ 32 ∷ []) is ∙ append_assoc line (replicate (k - length line) 32) (32 ∷ [])
    ∙ ap (λ xs. line ++ xs) (replicate_more (k - length line) 32) ∙ ap (λ j. line ++ replicate j 32) more

pub blanks_all : (line now : List ℕ) (k column : ℕ) → now ≡ line ++ replicate (k - length line) 32
    → column ≤ k → k ≤ max column (length line) → length line ≤ k
    → now ≡ line ++ replicate (column - length line) 32
blanks_all line now k column is reached high low =
    let same : k - length line ≡ column - length line = omega arith in
    is ∙ ap (λ j. line ++ replicate j 32) same
