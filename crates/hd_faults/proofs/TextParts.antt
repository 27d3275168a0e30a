-- Text that grows by one part after another.
use Rattle.hd_script.proofs.Basics.{List, ap, append_assoc, ℕ, ◌++◌, ◌∙◌, ◌≡◌}

-- a part, and then the others
pub after : (text with_part part others all : List ℕ) → with_part ≡ text ++ part → all ≡ with_part ++ others
    → all ≡ text ++ (part ++ others)
after text with_part part others all e f =
    f ∙ ap (λ (l : List ℕ). l ++ others) e ∙ append_assoc text part others
