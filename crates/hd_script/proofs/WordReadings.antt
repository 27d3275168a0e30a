-- The reading of a list of words, by their number.
use Rattle.hd_script.proofs.Basics.{Cmd, List, MatchOption, None, Option, Some, [], ap, blank, bytes_eq, caller, codes, command, cond-false, cond-true, false, five_words, four_words, is_some, number_of, option_map, sym, three_words, true, two_words, words_at, ℕ, ◌∙◌, ◌∷◌, ◌≡◌}
use Rattle.std.specs.Borrow.{Bor}
use Rattle.hd_model.specs.Grammar.{reading_of}

-- what the search for the next word found
abbrev pub IsNext : Option (Bor (List ℕ) × Bor (List ℕ)) → List ℕ → Type 0
IsNext next rest = MatchOption next (words_at rest ≡ [])
    (λ found. words_at rest ≡ found.0.now ∷ words_at found.1.now)

pub ends : (next : Option (Bor (List ℕ) × Bor (List ℕ))) (rest : List ℕ) → IsNext next rest
    → is_some next ≡ false → words_at rest ≡ []
ends None rest is_next lacks = is_next
ends (Some found) rest is_next lacks = absurd cc

pub goes_on : (next : Option (Bor (List ℕ) × Bor (List ℕ))) (rest : List ℕ) → IsNext next rest
    → is_some next ≡ true → (word : List ℕ) × (others : List ℕ) × (words_at rest ≡ word ∷ words_at others)
goes_on None rest is_next has = absurd cc
goes_on (Some found) rest is_next has = (found.0.now, found.1.now, is_next)

-- a list of words by its first word and what is known of the others
pub then_word : {ws xs ys : List (List ℕ)} {w : List ℕ} → ws ≡ w ∷ xs → xs ≡ ys → ws ≡ w ∷ ys
then_word {w = w} e f = e ∙ ap (λ zs. w ∷ zs) f

-- the same behind three words
pub behind_three : {xs ys : List (List ℕ)} {w a b : List ℕ} → xs ≡ ys → w ∷ a ∷ b ∷ xs ≡ w ∷ a ∷ b ∷ ys
behind_three {w = w} {a = a} {b = b} e = ap (λ zs. w ∷ a ∷ b ∷ zs) e

module _ {ws : List (List ℕ)} where
  pub none : ws ≡ [] → Some blank ≡ reading_of ws
  unfolding reading_of
  none e = sym (ap reading_of e)

  pub lone : {w : List ℕ} → ws ≡ w ∷ [] → None ≡ reading_of ws
  unfolding reading_of
  lone e = sym (ap reading_of e)

  -- `caller` and a number
  pub names_caller : {w a : List ℕ} (n : Option ℕ) → ws ≡ w ∷ a ∷ [] → bytes_eq w (codes "caller") ≡ true
      → n ≡ number_of 15 a → option_map caller n ≡ reading_of ws
  unfolding reading_of
  names_caller {w} {a} n e is number =
      sym (ap reading_of e ∙ cond-true (bytes_eq w (codes "caller")) (option_map caller (number_of 15 a))
      (option_map command (two_words w a)) is ∙ ap (option_map caller) (sym number))

  pub of_two : {w a : List ℕ} (c : Option Cmd) → ws ≡ w ∷ a ∷ [] → bytes_eq w (codes "caller") ≡ false
      → c ≡ two_words w a → option_map command c ≡ reading_of ws
  unfolding reading_of
  of_two {w} {a} c e is_not same =
      sym (ap reading_of e ∙ cond-false (bytes_eq w (codes "caller")) (option_map caller (number_of 15 a))
      (option_map command (two_words w a)) is_not ∙ ap (option_map command) (sym same))

  pub of_three : {w a b : List ℕ} (c : Option Cmd) → ws ≡ w ∷ a ∷ b ∷ [] → c ≡ three_words w a b
      → option_map command c ≡ reading_of ws
  unfolding reading_of
  of_three c e same = sym (ap reading_of e ∙ ap (option_map command) (sym same))

  pub of_four : {w a b d : List ℕ} (c : Option Cmd) → ws ≡ w ∷ a ∷ b ∷ d ∷ [] → c ≡ four_words w a b d
      → option_map command c ≡ reading_of ws
  unfolding reading_of
  of_four c e same = sym (ap reading_of e ∙ ap (option_map command) (sym same))

  pub of_five : {w a b d x : List ℕ} (c : Option Cmd) → ws ≡ w ∷ a ∷ b ∷ d ∷ x ∷ []
      → c ≡ five_words w a b d x → option_map command c ≡ reading_of ws
  unfolding reading_of
  of_five c e same = sym (ap reading_of e ∙ ap (option_map command) (sym same))

  pub of_more : {w a b d x y : List ℕ} {zs : List (List ℕ)} → ws ≡ w ∷ a ∷ b ∷ d ∷ x ∷ y ∷ zs
      → None ≡ reading_of ws
  unfolding reading_of
  of_more e = sym (ap reading_of e)
