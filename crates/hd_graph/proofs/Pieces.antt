-- Pieces of a text, one after another.
use Rattle.std.proofs.Common.{List, ap, append_assoc, subst, ℕ, ◌++◌, ◌∙◌, ◌≡◌}
use Rattle.std.specs.Prelude.{IfOk, Result}

pub last_piece : {T E : Type 0} (result : Result T E) (old text now a b : List ℕ) → text ≡ old ++ a
    → IfOk result (λ _. now ≡ text ++ b) → IfOk result (λ _. now ≡ old ++ (a ++ b))
last_piece result old text now a b first =
    subst (λ (xs : List ℕ). IfOk result (λ _. now ≡ xs)) (ap (λ m. m ++ b) first ∙ append_assoc old a b)

pub more : (old text now a b : List ℕ) → text ≡ old ++ a → now ≡ text ++ b → now ≡ old ++ (a ++ b)
more old text now a b first next = next ∙ ap (λ m. m ++ b) first ∙ append_assoc old a b

-- six after a text, or as one
pub six : (o a b c d e f g : List ℕ)
    → ((((((o ++ a) ++ b) ++ c) ++ d) ++ e) ++ f) ++ g ≡ o ++ ((((((a ++ b) ++ c) ++ d) ++ e) ++ f) ++ g)
six o a b c d e f g =
    ap (λ t. ((((t ++ c) ++ d) ++ e) ++ f) ++ g) (append_assoc o a b)
    ∙ ap (λ t. (((t ++ d) ++ e) ++ f) ++ g) (append_assoc o (a ++ b) c)
    ∙ ap (λ t. ((t ++ e) ++ f) ++ g) (append_assoc o ((a ++ b) ++ c) d)
    ∙ ap (λ t. (t ++ f) ++ g) (append_assoc o (((a ++ b) ++ c) ++ d) e)
    ∙ ap (λ t. t ++ g) (append_assoc o ((((a ++ b) ++ c) ++ d) ++ e) f)
    ∙ append_assoc o (((((a ++ b) ++ c) ++ d) ++ e) ++ f) g
