-- The next word of bytes, and what is left after it.
use Rattle.hd_script.proofs.Basics.{Bool, List, [], ap, arith, cond, cond-true, drop, drop_all, drop_more, false, filter, fails_before_first, get_or, is_blank, length, lt-ltb, ltb, passes_at_first, position_or_len, refl, slice_split, starts_blank, subst, sym, take, take_all, true, ℕ, ⊎_elim, cases_lt, ◌++◌, ◌+◌, ◌<◌, ◌∙◌, ◌∷◌, ◌≡◌, ◌≤◌}
use Rattle.std.proofs.lemmas.List.Splits.{slice_split_first, slice_split_none, slice_split-cons_yes}
use Rattle.std.proofs.Common.{All, None, Option, Some, not, position}
use Rattle.std.proofs.lemmas.Bool.{false_from_ne_true, ltb-false}
use Rattle.std.proofs.lemmas.List.{length-take-le}
use Rattle.std.proofs.lemmas.List.Sums.{prefix_len-le-length}
use Rattle.std.proofs.lemmas.Option.{cond_some}
use Rattle.hd_model.specs.Grammar.{words_in}
use Rattle.hd_faults.specs.Placed.{placed, placed_words, words_from, bytes_of}
use Rattle.hd_faults.specs.Laws.{WordsHaveColumns}
use Rattle.hd_model.specs.Grammar.{is_hash, words_of}
use Rattle.std.specs.List.{before_first}
use Rattle.std.specs.Str.Lines.{strip_carriage_return}

-- where the first byte is found that passes, or none is
pub found : (p : ℕ → Bool) (xs : List ℕ) (i : ℕ) → position p xs ≡ Some i → i ≡ position_or_len p xs
found p xs i e =
    let s = cond_some (ltb (position_or_len p xs) (length xs)) (position_or_len p xs) i e in sym s.1

pub missing : (p : ℕ → Bool) (xs : List ℕ) → position p xs ≡ None → length xs ≡ position_or_len p xs
missing p xs e =
    let n = position_or_len p xs in
    let none_passes : ltb n (length xs) ≡ false =
    false_from_ne_true (ltb n (length xs))
    (λ h. let bad : ◌≡◌ {A = Option ℕ} (Some n) None =
    sym (cond-true (ltb n (length xs)) (Some n) None h) ∙ e in cc) in
    omega (arith, ltb-false n (length xs) none_passes, prefix_len-le-length (λ x. not (p x)) xs)

-- a word of some bytes, where the next part begins one byte after it
word_first : (column n : ℕ) (part : List ℕ) (parts : List (List ℕ)) → 0 < length part → length part ≡ n
    → placed column (part ∷ parts) ≡ (column, part) ∷ placed (column + n + 1) parts
word_first column n part parts some e =
    ap (λ (words : List (ℕ × List ℕ)). words ++ placed (column + length part + 1) parts)
    (cond-true (ltb 0 (length part)) ((column, part) ∷ []) [] (lt-ltb 0 (length part) some))
    ∙ ap (λ (m : ℕ). (column, part) ∷ placed (column + m + 1) parts) e

-- bytes that begin with a blank
pub past_blank : (column : ℕ) (xs : List ℕ) → starts_blank xs ≡ true
    → (words_from (column + 1) (drop 1 xs) ≡ words_from column xs) × (0 < length xs)
unfolding words_from
past_blank column [] h = absurd cc
past_blank column (b ∷ bs) h =
    let here : column + 0 + 1 ≡ column + 1 = omega arith in (
      sym (ap (placed column) (slice_split-cons_yes is_blank b bs h)
          ∙ ap (λ (m : ℕ). placed m (slice_split is_blank bs)) here),
      omega arith,
    )

-- no byte is left
pub no_words : (column : ℕ) (xs : List ℕ) → starts_blank xs ≡ false → position_or_len is_blank xs ≡ 0
    → words_from column xs ≡ []
unfolding words_from
no_words column [] begins none = refl
no_words column (b ∷ bs) begins none =
    let goes_on : position_or_len is_blank (b ∷ bs) ≡ 1 + position_or_len is_blank bs =
    ap (λ (t : Bool). cond (not t) (1 + position_or_len is_blank bs) 0) begins in
    absurd (omega (arith, none, goes_on))

module _ (column : ℕ) (xs : List ℕ) (n : ℕ) (e : n ≡ position_or_len is_blank xs) (some : 0 < n) where
  within : n < length xs → words_from column xs ≡ (column, take n xs) ∷ words_from (column + n) (drop n xs)
  unfolding words_from
  within inside =
      let first : position_or_len is_blank xs < length xs = omega (arith, inside, e) in
      let parts = slice_split is_blank (drop (n + 1) xs) in
      let size : length (take n xs) ≡ n = length-take-le n xs (omega (arith, inside)) in
      let blank : is_blank (get_or xs n 0) ≡ true =
      subst (λ (k : ℕ). is_blank (get_or xs k 0) ≡ true) (sym e) (passes_at_first is_blank xs 0 first) in
      let split : slice_split is_blank xs ≡ take n xs ∷ parts =
      subst (λ (k : ℕ). slice_split is_blank xs ≡ take k xs ∷ slice_split is_blank (drop (k + 1) xs)) (sym e)
      (slice_split_first is_blank xs 0 first) in
      let left : placed (column + n) (slice_split is_blank (drop n xs)) ≡ placed (column + n + 0 + 1) parts =
      ap (λ (ys : List ℕ). placed (column + n) (slice_split is_blank ys)) (drop_more xs n 0 inside)
      ∙ ap (placed (column + n)) (slice_split-cons_yes is_blank (get_or xs n 0) (drop (n + 1) xs) blank) in
      let same : column + n + 1 ≡ column + n + 0 + 1 = omega arith in
      ap (placed column) split ∙ word_first column n (take n xs) parts (omega (arith, some, size)) size
      ∙ ap (λ (k : ℕ). (column, take n xs) ∷ placed k parts) same
      ∙ ap (λ (words : List (ℕ × List ℕ)). (column, take n xs) ∷ words) (sym left)

  beyond : length xs ≤ n → words_from column xs ≡ (column, take n xs) ∷ words_from (column + n) (drop n xs)
  unfolding words_from
  beyond all =
      let whole : take n xs ≡ xs = take_all n xs all in
      let none : drop n xs ≡ [] = drop_all n xs all in
      let free : All (λ x. is_blank x ≡ false) xs =
      λ k d h. fails_before_first is_blank xs k d (omega (arith, all, e, h)) in
      ap (placed column) (slice_split_none is_blank xs free)
      ∙ word_first column (length xs) xs []
      (omega (arith, some, all, e, prefix_len-le-length (λ x. not (is_blank x)) xs)) refl
      ∙ ap (λ (word : List ℕ). (let one : List (ℕ × List ℕ) = (column, word) ∷ [] in one)) (sym whole)
      ∙ ap (λ (ys : List ℕ). (column, take n xs) ∷ placed (column + n) (slice_split is_blank ys)) (sym none)

  pub word_here : words_from column xs ≡ (column, take n xs) ∷ words_from (column + n) (drop n xs)
  word_here = ⊎_elim within beyond (cases_lt n (length xs))

-- the words without their columns are those of the grammar
bytes_placed : (column : ℕ) (parts : List (List ℕ))
    → bytes_of (placed column parts) ≡ filter (λ part. ltb 0 (length part)) parts
bytes_placed column [] = refl
bytes_placed column (part ∷ parts) =
    let rest = placed (column + length part + 1) parts in
    let kept = filter (λ (p : List ℕ). ltb 0 (length p)) parts in
    let left : bytes_of rest ≡ kept = bytes_placed (column + length part + 1) parts in
    elim (ltb 0 (length part)) as (λ t. bytes_of (cond t ((column, part) ∷ []) [] ++ rest)
    ≡ cond t (part ∷ kept) kept)
    [ true ↦ ap (λ (words : List (List ℕ)). part ∷ words) left | false ↦ left ]

pub bytes_from : (column : ℕ) (bytes : List ℕ) → bytes_of (words_from column bytes) ≡ words_in bytes
unfolding words_from words_in
bytes_from column bytes = bytes_placed column (slice_split is_blank bytes)

-- the words of a line
pub line_words : (line text : List ℕ) → text ≡ before_first is_hash (strip_carriage_return line)
    → words_of line ≡ bytes_of (words_from 1 text)
unfolding words_of
line_words line text e = ap words_in (sym e) ∙ sym (bytes_from 1 text)

pub line_placed : (line text : List ℕ) → text ≡ before_first is_hash (strip_carriage_return line)
    → words_from 1 text ≡ placed_words line
unfolding placed_words
line_placed line text e = ap (words_from 1) e

pub words_have_columns : WordsHaveColumns
unfolding placed_words
words_have_columns line =
    sym (line_words line (before_first is_hash (strip_carriage_return line)) refl)
