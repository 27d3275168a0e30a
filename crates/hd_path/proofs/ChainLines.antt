-- Lines of chains and texts of objects, one more at the end.
use Rattle.std.proofs.Common.{List, [], append-nil, append_assoc, ap, refl, subst, sym, ℕ, ◌++◌, ◌∙◌, ◌∷◌, ◌≡◌}
use Rattle.hd_model.specs.declared.data.Id.{Id}
use Rattle.hd_model.specs.State.{State}
use Rattle.hd_path.specs.Lines.{AreLines, last, more}
use Rattle.hd_path.specs.{Paths.ArePathTexts, Paths.IsPathText, Paths.WritesPaths, Inside.WritesPath}

-- the last node of a chain
abbrev pub last_of : ℕ → List ℕ → ℕ
last_of x [] = x
last_of x (y ∷ ys) = last_of y ys

pub last_of_push : (x : ℕ) (xs : List ℕ) (y : ℕ) → last_of x (xs ++ y ∷ []) ≡ y
last_of_push x [] y = refl
last_of_push x (z ∷ xs) y = last_of_push z xs y

pub lines_push : (P : ℕ → ℕ → List ℕ → Type 0) (x : ℕ) (rest lines : List ℕ) (y : ℕ) (line : List ℕ)
    → AreLines P x rest lines → P (last_of x rest) y line → AreLines P x (rest ++ y ∷ []) (lines ++ line)
lines_push P _ _ _ y line (last {x = x}) is =
    subst (λ (l : List ℕ). AreLines P x (y ∷ []) l) (append-nil line) (more is last)
lines_push P _ _ _ y line (more {x = x} {y = z} {rest = rest} {line = first} {lines = lines} step tail) is =
    subst (λ (l : List ℕ). AreLines P x (z ∷ rest ++ y ∷ []) l) (sym (append_assoc first lines line))
    (more step (lines_push P z rest lines y line tail is))

-- what a loop wrote so far, and one line more
module _ (P : ℕ → ℕ → List ℕ → Type 0) (x : ℕ) (rest : List ℕ) (start text after : List ℕ) where
  abbrev pub Wrote : List ℕ → List ℕ → Type 0
  Wrote ys now = (lines : List ℕ) × (now ≡ start ++ lines) × AreLines P x ys lines

  pub wrote_more : (y : ℕ) (all : List ℕ) → all ≡ rest ++ y ∷ [] → Wrote rest text
      → (line : List ℕ) × (after ≡ text ++ line) × P (last_of x rest) y line → Wrote all after
  wrote_more y all same so_far one = (
    so_far.0 ++ one.0,
    one.1 ∙ ap (λ (t : List ℕ). t ++ one.0) so_far.1 ∙ append_assoc start so_far.0 one.0,
    subst (λ ys. AreLines P x ys (so_far.0 ++ one.0)) (sym same)
        (lines_push P x rest so_far.0 y one.0 so_far.2 one.2),
  )

pub wrote_none : (P : ℕ → ℕ → List ℕ → Type 0) (x : ℕ) (start : List ℕ)
    → (lines : List ℕ) × (start ≡ start ++ lines) × AreLines P x [] lines
wrote_none P x start = ([], sym (append-nil start), last)

-- the same of objects
pub texts_push : (s : State) (xs : List Id) (text : List ℕ) (x : Id) (one : List ℕ) → ArePathTexts s xs text
    → IsPathText s x one → ArePathTexts s (xs ++ x ∷ []) (text ++ one)
texts_push s _ _ x one ArePathTexts.none is =
    subst (λ (l : List ℕ). ArePathTexts s (x ∷ []) l) (append-nil one)
    (ArePathTexts.more is ArePathTexts.none)
texts_push s _ _ x one (ArePathTexts.more {x = y} {xs = xs} {one = first} {rest = rest} here tail) is =
    subst (λ (l : List ℕ). ArePathTexts s (y ∷ xs ++ x ∷ []) l) (sym (append_assoc first rest one))
    (ArePathTexts.more here (texts_push s xs rest x one tail is))

pub paths_none : (s : State) (start : List ℕ) → WritesPaths s [] start start
paths_none s start = ([], sym (append-nil start), ArePathTexts.none)

pub paths_more : (s : State) (xs : List Id) (start text after : List ℕ) (x : Id) (all : List Id)
    → all ≡ xs ++ x ∷ [] → WritesPaths s xs start text → WritesPath s x text after
    → WritesPaths s all start after
paths_more s xs start text after x all same so_far one = (
  so_far.0 ++ one.0,
  one.1 ∙ ap (λ (t : List ℕ). t ++ one.0) so_far.1 ∙ append_assoc start so_far.0 one.0,
  subst (λ ys. ArePathTexts s ys (so_far.0 ++ one.0)) (sym same)
      (texts_push s xs so_far.0 x one.0 so_far.2 one.2),
)

-- three texts one after another
pub three_texts : (start a b c one two three : List ℕ) → one ≡ start ++ a → two ≡ one ++ b → three ≡ two ++ c
    → three ≡ start ++ (a ++ b ++ c)
three_texts start a b c one two three first second third =
    third ∙ ap (λ (t : List ℕ). t ++ c) second ∙ ap (λ (t : List ℕ). t ++ b ++ c) first
    ∙ ap (λ (t : List ℕ). t ++ c) (append_assoc start a b) ∙ append_assoc start (a ++ b) c
