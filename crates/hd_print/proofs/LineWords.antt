-- The words of a line that has no comment.
use Rattle.hd_print.proofs.Basics.{All, All-weaker, AllPass-from_list_all, Bool, List, [], and_from, ap, arith, before_first, cond-false, cond-true, eqb, eqb-true, false, filter, get_or, is_blank, is_hash, is_line_end, join_with_byte, leb, leb-true, length, length-append, list_all, list_all-from_AllPass, lt-ltb, ltb, ne_eqb, or_cases, or_right, position_or_len, position_or_len_is, refl, slice_split, sym, take, take_all, true, without_empty_last, ℕ, ⊎_elim, ◌++◌, ◌-◌, ◌<◌, ◌||◌, ◌∙◌, ◌∷◌, ◌≡◌, ◌≤◌}
use Rattle.std.specs.Str.Lines.{strip_carriage_return}
use Rattle.std.proofs.{lemmas.List.Folds.list_all-append, lemmas.List.Splits.slice_split_at, lemmas.List.Splits.slice_split_none}
use Rattle.hd_model.specs.Grammar.{lines_in, words_in, words_of}

-- a byte of a word: it is above `#`, so it is no blank, ends no line and begins no comment
abbrev pub is_high : ℕ → Bool
is_high b = leb 36 b

pub record IsWord (word : List ℕ) : Type 0 where
  pub some : 0 < length word
  pub high : list_all is_high word ≡ true

abbrev pub AreWords : List (List ℕ) → Type 0
AreWords [] = Unit {0}
AreWords (word ∷ words) = IsWord word × AreWords words

-- a byte of a line of such words: a blank, or one of a word
abbrev is_plain : ℕ → Bool
is_plain b = eqb b 32 || is_high b

-- each element that passes one test fails another
pub all_fail : (p q : ℕ → Bool) → ((b : ℕ) → p b ≡ true → q b ≡ false) → (bytes : List ℕ)
    → list_all p bytes ≡ true → All (λ b. q b ≡ false) bytes
all_fail p q differ bytes h = All-weaker (λ b. p b ≡ true)
    (λ b. q b ≡ false) differ bytes (AllPass-from_list_all p bytes h)

-- no byte of such a line is this one
plain_is_not : (c : ℕ) → c < 36 → (c ≡ 32 → ⊥) → (b : ℕ) → is_plain b ≡ true → eqb b c ≡ false
plain_is_not c low differs b h =
    ne_eqb b c (λ (e : b ≡ c). ⊎_elim
    (λ (blank : eqb b 32 ≡ true). differs (sym e ∙ eqb-true b 32 blank))
    (λ (high : is_high b ≡ true). let above : 36 ≤ b = leb-true 36 b high in absurd (omega arith))
    (or_cases (eqb b 32) (is_high b) h))

high_is_not_blank : (b : ℕ) → is_high b ≡ true → is_blank b ≡ false
high_is_not_blank b h =
    let above : 36 ≤ b = leb-true 36 b h in
    let space : eqb b 32 ≡ false = ne_eqb b 32 (λ e. omega arith) in
    let tab : eqb b 9 ≡ false = ne_eqb b 9 (λ e. omega arith) in
    rw space tab

plain_word : (word : List ℕ) → IsWord word → list_all is_plain word ≡ true
plain_word word w =
    list_all-from_AllPass is_plain word
    (All-weaker (λ b. is_high b ≡ true) (λ b. is_plain b ≡ true)
    (λ b h. or_right (eqb b 32) (is_high b) h) word (AllPass-from_list_all is_high word w.high))

plain_line : (word : List ℕ) (words : List (List ℕ)) → IsWord word → AreWords words
    → list_all is_plain (join_with_byte 32 (word ∷ words)) ≡ true
plain_line word [] w ws = plain_word word w
plain_line word (next ∷ words) w ws =
    list_all-append is_plain word (32 ∷ join_with_byte 32 (next ∷ words))
    ∙ and_from (list_all is_plain word) (list_all is_plain (join_with_byte 32 (next ∷ words)))
    (plain_word word w) (plain_line next words ws.0 ws.1)

-- split at blanks, a line gives its words
cut_again : (word : List ℕ) (words : List (List ℕ)) → IsWord word → AreWords words
    → slice_split is_blank (join_with_byte 32 (word ∷ words)) ≡ word ∷ words
cut_again word [] w ws = slice_split_none is_blank word
    (all_fail is_high is_blank high_is_not_blank word w.high)
cut_again word (next ∷ words) w ws =
    slice_split_at is_blank word 32 (join_with_byte 32 (next ∷ words))
    (all_fail is_high is_blank high_is_not_blank word w.high) refl
    ∙ ap (λ (parts : List (List ℕ)). word ∷ parts) (cut_again next words ws.0 ws.1)

none_empty : (words : List (List ℕ)) → AreWords words
    → filter (λ (word : List ℕ). ltb 0 (length word)) words ≡ words
none_empty [] ws = refl
none_empty (word ∷ words) ws =
    let others = filter (λ (w : List ℕ). ltb 0 (length w)) words in
    cond-true (ltb 0 (length word)) (word ∷ others) others (lt-ltb 0 (length word) ws.0.some)
    ∙ ap (λ (rest : List (List ℕ)). word ∷ rest) (none_empty words ws.1)

-- no comment and no carriage return is dropped
whole_line : (bytes : List ℕ) → 0 < length bytes → list_all is_plain bytes ≡ true
    → before_first is_hash (strip_carriage_return bytes) ≡ bytes
whole_line bytes some plain =
    let n = length bytes in
    let last : eqb (get_or bytes (n - 1) 0) 13 ≡ false =
    all_fail is_plain (λ b. eqb b 13) (plain_is_not 13 (omega arith) (λ e. omega arith)) bytes plain
    (n - 1) 0 (omega arith) in
    let stays : strip_carriage_return bytes ≡ bytes =
    cond-false (eqb (get_or bytes (n - 1) 0) 13) (take (n - 1) bytes) bytes last in
    let no_hash = all_fail is_plain is_hash (plain_is_not 35 (omega arith) (λ e. omega arith)) bytes plain in
    let nowhere : position_or_len is_hash bytes ≡ n =
    position_or_len_is is_hash bytes n 0 (omega arith) (λ k h. no_hash k 0 h) (λ h. absurd (omega arith)) in
    ap (before_first is_hash) stays ∙ take_all (position_or_len is_hash bytes) bytes (omega (arith, nowhere))

some_bytes : (word : List ℕ) (words : List (List ℕ)) → IsWord word
    → 0 < length (join_with_byte 32 (word ∷ words))
some_bytes word [] w = w.some
some_bytes word (next ∷ words) w =
    omega (arith, w.some, length-append word (32 ∷ join_with_byte 32 (next ∷ words)))

-- a line of words has those words
pub words_again : (word : List ℕ) (words : List (List ℕ)) → IsWord word → AreWords words
    → words_of (join_with_byte 32 (word ∷ words)) ≡ word ∷ words
unfolding words_of words_in
words_again word words w ws =
    ap words_in (whole_line (join_with_byte 32 (word ∷ words)) (some_bytes word words w)
    (plain_line word words w ws))
    ∙ ap (filter (λ (part : List ℕ). ltb 0 (length part))) (cut_again word words w ws)
    ∙ none_empty (word ∷ words) (w, ws)

-- and it is one line
pub line_again : (word : List ℕ) (words : List (List ℕ)) → IsWord word → AreWords words
    → lines_in (join_with_byte 32 (word ∷ words) ++ 10 ∷ []) ≡ join_with_byte 32 (word ∷ words) ∷ []
unfolding lines_in
line_again word words w ws =
    let text = join_with_byte 32 (word ∷ words) in
    ap without_empty_last (slice_split_at is_line_end text 10 []
    (all_fail is_plain is_line_end (plain_is_not 10 (omega arith) (λ e. omega arith)) text
    (plain_line word words w ws)) refl)
