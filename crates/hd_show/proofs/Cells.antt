-- The line of a row, word by word; and texts one after another.
use Rattle.std.proofs.Common.{List, ap, append_assoc, subst, ℕ, ◌++◌, ◌∙◌, ◌≡◌}
use Rattle.std.specs.Prelude.{IfOk, Result, decimal}
use Rattle.hd_model.specs.Text.{newline}
use Rattle.hd_show.specs.Columns.{padded}

pub cell_more : {start line blank now : List ℕ} (column : ℕ) (word : List ℕ) → line ≡ start
    → blank ≡ padded column line → now ≡ blank ++ word → now ≡ padded column start ++ word
cell_more column word is blanks after = after ∙ ap (λ xs. xs ++ word) (blanks ∙ ap (padded column) is)

-- the same, where blanks and word come at once
pub cell_at : {start line now : List ℕ} (column : ℕ) (word : List ℕ) → line ≡ start
    → now ≡ padded column line ++ word → now ≡ padded column start ++ word
cell_at column word is after = after ∙ ap (λ xs. padded column xs ++ word) is

-- the same of a number that is known under another name
pub number_at : {start line now : List ℕ} {shown number : ℕ} (column : ℕ) → line ≡ start
    → now ≡ padded column line ++ decimal shown → shown ≡ number
    → now ≡ padded column start ++ decimal number
number_at column is after same = after ∙ (λ i. padded column (is i) ++ decimal (same i))

pub row_end : {T E : Type 0} (result : Result T E) (old line cells now : List ℕ) → line ≡ cells
    → IfOk result (λ _. now ≡ (old ++ line) ++ newline) → IfOk result (λ _. now ≡ old ++ (cells ++ newline))
row_end result old line cells now is =
    subst (λ (xs : List ℕ). IfOk result (λ _. now ≡ xs))
    (ap (λ xs. (old ++ xs) ++ newline) is ∙ append_assoc old cells newline)

-- two texts, and more, one after another
pub joined : (old a b before now : List ℕ) → before ≡ old ++ a → now ≡ before ++ b → now ≡ old ++ (a ++ b)
joined old a b before now is after = after ∙ ap (λ xs. xs ++ b) is ∙ append_assoc old a b

-- the same, where the last call's result is passed on
pub joined_last : {T E : Type 0} (result : Result T E) (old a b before now : List ℕ) → before ≡ old ++ a
    → IfOk result (λ _. now ≡ before ++ b) → IfOk result (λ _. now ≡ old ++ (a ++ b))
joined_last result old a b before now is =
    subst (λ (xs : List ℕ). IfOk result (λ _. now ≡ xs)) (ap (λ xs. xs ++ b) is ∙ append_assoc old a b)
