-- The first line and its words, split off.
use Rattle.hd_script.proofs.Basics.{All, All-head, All-tail, All-take, All-weaker, Bool, List, None, Option, Some, [], ap, append-nil, arith, before_first, cases_Bool, cases_lt, cond, cond-false, cond-true, cond_some, drop, drop_all, drop_more, eqb, fails_before_first, false, false_from_ne_true, filter, get_or, inl, inr, is_blank, is_hash, is_line_end, is_stop, length, length-drop, line_after, lt-ltb, ltb, ltb-false, ltb-true, nat_tests, ne_eqb, not, onto_first, passes_at_first, position, position_or_len, position_or_len_is, refl, slice_split, split_at_first, starts_blank, starts_end, subst, suc, sym, take, take_all, true, with_word, without_empty_last, ℕ, ⊎_elim, ◌++◌, ◌+◌, ◌-◌, ◌<◌, ◌∙◌, ◌∷◌, ◌≡◌, ◌≢◌, ◌≤◌, ◌⊎◌}
use Rattle.std.specs.Str.Lines.{strip_carriage_return}
use Rattle.std.proofs.lemmas.Grind.{common_steps}
use Rattle.std.proofs.lemmas.List.Splits.{slice_split_first, slice_split_none, slice_split_at}
use Rattle.hd_model.specs.Grammar.{lines_in, words_in, words_of}
use Rattle.hd_script.specs.Words.{words_at}

-- an index that is found is the first that passes
found : (p : ℕ → Bool) (xs : List ℕ) (i : ℕ) → position p xs ≡ Some i
    → (position_or_len p xs < length xs) × (position_or_len p xs ≡ i)
found p xs i e =
    let s = cond_some (ltb (position_or_len p xs) (length xs)) (position_or_len p xs) i e in
    (ltb-true (position_or_len p xs) (length xs) s.0, s.1)

-- where none is found, none passes
missing : (p : ℕ → Bool) (xs : List ℕ) → position p xs ≡ None → length xs ≤ position_or_len p xs
missing p xs e =
    let n = position_or_len p xs in
    let none_passes : ltb n (length xs) ≡ false =
    false_from_ne_true (ltb n (length xs))
    (λ h. let bad : ◌≡◌ {A = Option ℕ} (Some n) None =
    sym (cond-true (ltb n (length xs)) (Some n) None h) ∙ e in cc) in
    ltb-false n (length xs) none_passes

abbrev NonePasses : (ℕ → Bool) → List ℕ → Type 0
NonePasses p xs = All (λ x. p x ≡ false) xs

all_fail : (p : ℕ → Bool) (xs : List ℕ) → length xs ≤ position_or_len p xs → NonePasses p xs
all_fail p xs e = λ k d h. fails_before_first p xs k d (omega (arith, e))

before_fail : (p : ℕ → Bool) (xs : List ℕ) → NonePasses p (before_first p xs)
before_fail p xs = λ k d m.
    let fails = fails_before_first p xs k d (grind (arith, common_steps)) in grind (arith, common_steps)

-- the bytes before the first that passes, the one that does, and the rest
parts : (p : ℕ → Bool) (xs : List ℕ) (i : ℕ) → i ≡ position_or_len p xs → i < length xs
    → (xs ≡ take i xs ++ get_or xs i 0 ∷ drop (i + 1) xs) × (drop i xs ≡ get_or xs i 0 ∷ drop (i + 1) xs)
    × NonePasses p (take i xs) × (p (get_or xs i 0) ≡ true)
parts p xs i e within =
    let n = position_or_len p xs in
    let inside : n < length xs = omega (arith, within, e) in
    subst (λ (n : ℕ). (xs ≡ take n xs ++ get_or xs n 0 ∷ drop (n + 1) xs)
    × (drop n xs ≡ get_or xs n 0 ∷ drop (n + 1) xs)
    × NonePasses p (take n xs) × (p (get_or xs n 0) ≡ true)) (sym e)
    (split_at_first p xs 0 inside, drop_more xs n 0 inside, before_fail p xs, passes_at_first p xs 0 inside)

-- ---- bytes before the first that passes

take_more : (x n : ℕ) (xs : List ℕ) → take (1 + n) (x ∷ xs) ≡ x ∷ take n xs
take_more x n xs = let more : 1 + n ≡ suc n = omega arith in ap (λ (m : ℕ). take m (x ∷ xs)) more

pub first_passes : (p : ℕ → Bool) (x : ℕ) (xs : List ℕ) → p x ≡ true → before_first p (x ∷ xs) ≡ []
first_passes p x xs e = ap (λ (b : Bool). take (cond (not b) (1 + position_or_len p xs) 0) (x ∷ xs)) e

pub first_fails : (p : ℕ → Bool) (x : ℕ) (xs : List ℕ) → p x ≡ false
    → before_first p (x ∷ xs) ≡ x ∷ before_first p xs
first_fails p x xs e =
    ap (λ (b : Bool). take (cond (not b) (1 + position_or_len p xs) 0) (x ∷ xs)) e
    ∙ take_more x (position_or_len p xs) xs

front_fails : (p : ℕ → Bool) (w xs : List ℕ) → NonePasses p w
    → before_first p (w ++ xs) ≡ w ++ before_first p xs
front_fails p [] xs h = refl
front_fails p (x ∷ w) xs h =
    first_fails p x (w ++ xs) (All-head (λ y. p y ≡ false) x w h)
    ∙ ap (λ (l : List ℕ). x ∷ l) (front_fails p w xs (All-tail (λ y. p y ≡ false) x w h))

all_before : (p : ℕ → Bool) (w : List ℕ) → NonePasses p w → before_first p w ≡ w
all_before p [] h = refl
all_before p (x ∷ w) h =
    first_fails p x w (All-head (λ y. p y ≡ false) x w h)
    ∙ ap (λ (l : List ℕ). x ∷ l) (all_before p w (All-tail (λ y. p y ≡ false) x w h))

-- ---- lines

onto : (line : List ℕ) (x : ℕ) (parts : List (List ℕ))
    → without_empty_last (line ∷ onto_first x parts) ≡ line ∷ without_empty_last (onto_first x parts)
onto line x [] = refl
onto line x (part ∷ parts) = refl

-- a line before other parts is one
before_parts : (p : ℕ → Bool) (line xs : List ℕ)
    → without_empty_last (line ∷ slice_split p xs) ≡ line ∷ without_empty_last (slice_split p xs)
before_parts p line [] = refl
before_parts p line (x ∷ xs) =
    let parts = slice_split p xs in
    elim (p x) as (λ t. without_empty_last (line ∷ cond t ([] ∷ parts) (onto_first x parts)) ≡ line
    ∷ without_empty_last (cond t ([] ∷ parts) (onto_first x parts)))
    [ true ↦ refl | false ↦ onto line x parts ]

drop_past : (x n : ℕ) (xs : List ℕ) → drop (n + 1) xs ≡ drop (1 + n + 1) (x ∷ xs)
drop_past x n xs = let more : suc (n + 1) ≡ 1 + n + 1 = omega arith in ap (λ (m : ℕ). drop m (x ∷ xs)) more

-- what follows a line begins behind the first line end
pub line_after_is : (xs : List ℕ) → line_after xs ≡ drop (position_or_len is_line_end xs + 1) xs
line_after_is [] = refl
line_after_is (x ∷ xs) =
    elim (is_line_end x) as (λ t. cond t xs (line_after xs)
    ≡ drop (cond (not t) (1 + position_or_len is_line_end xs) 0 + 1) (x ∷ xs))
    [ true ↦ refl | false ↦ line_after_is xs ∙ drop_past x (position_or_len is_line_end xs) xs ]

pub rest_at : (xs : List ℕ) (i : ℕ) → position is_line_end xs ≡ Some i → drop (i + 1) xs ≡ line_after xs
rest_at xs i e = subst (λ (n : ℕ). drop (n + 1) xs ≡ line_after xs) (found is_line_end xs i e).1
    (sym (line_after_is xs))

pub rest_of_last : (xs : List ℕ) → position is_line_end xs ≡ None → drop (length xs) xs ≡ line_after xs
rest_of_last xs e =
    drop_all (length xs) xs (omega arith) ∙ sym (line_after_is xs
    ∙ drop_all (position_or_len is_line_end xs + 1) xs (omega (arith, missing is_line_end xs e)))

pub first_line : (xs : List ℕ) → 0 < length xs
    → lines_in xs ≡ before_first is_line_end xs ∷ lines_in (line_after xs)
unfolding lines_in
first_line xs some =
    let n = position_or_len is_line_end xs in
    ⊎_elim
    (λ within. ap without_empty_last (slice_split_first is_line_end xs 0 within)
    ∙ before_parts is_line_end (take n xs) (drop (n + 1) xs)
    ∙ ap (λ (r : List ℕ). take n xs ∷ lines_in r) (sym (line_after_is xs)))
    (λ beyond. ap without_empty_last (slice_split_none is_line_end xs (all_fail is_line_end xs beyond))
    ∙ cond-false (eqb (length xs) 0) [] (xs ∷ []) (ne_eqb (length xs) 0 (λ h. omega arith))
    ∙ ap (λ (line : List ℕ). line ∷ []) (sym (take_all n xs beyond))
    ∙ ap (λ (r : List ℕ). take n xs ∷ lines_in r)
    (sym (line_after_is xs ∙ drop_all (n + 1) xs (omega (arith, beyond)))))
    (cases_lt n (length xs))

pub shorter : (xs : List ℕ) → 0 < length xs → length (line_after xs) < length xs
shorter [] some = absurd (omega (arith, some))
shorter (x ∷ xs) some =
    rw line_after_is (omega (arith, length-drop (position_or_len is_line_end (x ∷ xs) + 1) (x ∷ xs)))

-- the line goes on behind bytes without a line end
same_line : (w xs : List ℕ) → NonePasses is_line_end w → line_after (w ++ xs) ≡ line_after xs
same_line [] xs h = refl
same_line (x ∷ w) xs h =
    cond-false (is_line_end x) (w ++ xs) (line_after (w ++ xs)) (All-head (λ y. is_line_end y ≡ false) x w h)
    ∙ same_line w xs (All-tail (λ y. is_line_end y ≡ false) x w h)

-- ---- a carriage return at the end

strip_is : (x : ℕ) (xs : List ℕ) → strip_carriage_return (x ∷ xs)
    ≡ cond (eqb (get_or (x ∷ xs) (length xs) 0) 13) (take (length xs) (x ∷ xs)) (x ∷ xs)
strip_is x xs =
    let last : length (x ∷ xs) - 1 ≡ length xs = omega arith in
    ap (λ (n : ℕ). cond (eqb (get_or (x ∷ xs) n 0) 13) (take n (x ∷ xs)) (x ∷ xs)) last

strip_past : (x y : ℕ) (ys : List ℕ) → strip_carriage_return (x ∷ y ∷ ys) ≡ x ∷ strip_carriage_return (y ∷ ys)
strip_past x y ys =
    strip_is x (y ∷ ys) ∙ elim (eqb (get_or (y ∷ ys) (length ys) 0) 13) as
    (λ t. cond t (x ∷ take (length ys) (y ∷ ys)) (x ∷ y ∷ ys)
    ≡ x ∷ cond t (take (length ys) (y ∷ ys)) (y ∷ ys))
    [ true ↦ refl | false ↦ refl ] ∙ ap (λ (l : List ℕ). x ∷ l) (sym (strip_is y ys))

strip_front : (w : List ℕ) (x : ℕ) (xs : List ℕ)
    → strip_carriage_return (w ++ x ∷ xs) ≡ w ++ strip_carriage_return (x ∷ xs)
strip_front [] x xs = refl
strip_front (a ∷ []) x xs = strip_past a x xs
strip_front (a ∷ b ∷ w) x xs =
    strip_past a b (w ++ x ∷ xs) ∙ ap (λ (l : List ℕ). a ∷ l) (strip_front (b ∷ w) x xs)

strip_first : (x : ℕ) (xs : List ℕ) → eqb x 13 ≡ false
    → strip_carriage_return (x ∷ xs) ≡ x ∷ strip_carriage_return xs
strip_first x [] e = cond-false (eqb x 13) [] (x ∷ []) e
strip_first x (y ∷ ys) e = strip_past x y ys

strip_passes : (p : ℕ → Bool) (w : List ℕ) → NonePasses p w → NonePasses p (strip_carriage_return w)
strip_passes p w h =
    elim (eqb (get_or w (length w - 1) 0) 13) as (λ t. NonePasses p (cond t (take (length w - 1) w) w))
    [ true ↦ All-take (λ x. p x ≡ false) (length w - 1) w h | false ↦ h ]

-- ---- words

-- what is no stop is neither a blank nor a line end, and begins no comment
no_stop : (w : List ℕ) → NonePasses is_stop w
    → NonePasses is_blank w × NonePasses is_line_end w × NonePasses is_hash w
no_stop w h = (
  All-weaker (λ x. is_stop x ≡ false) (λ x. is_blank x ≡ false) (λ x e. grind (arith, nat_tests)) w h,
  All-weaker (λ x. is_stop x ≡ false) (λ x. is_line_end x ≡ false) (λ x e. grind (arith, nat_tests)) w h,
  All-weaker (λ x. is_stop x ≡ false) (λ x. is_hash x ≡ false) (λ x e. grind (arith, nat_tests)) w h,
)

which_stop : (s : ℕ) → is_stop s ≡ true → is_line_end s ≡ false → (is_blank s ≡ true) ⊎ (is_hash s ≡ true)
which_stop s stop no_end =
    ⊎_elim (λ blank. inl blank) (λ other. inr (grind (arith, nat_tests))) (cases_Bool (is_blank s))

skip_blank : (b : ℕ) (bs : List ℕ) → is_blank b ≡ true → words_in (b ∷ bs) ≡ words_in bs
unfolding words_in
skip_blank b bs h =
    let parts = slice_split is_blank bs in
    ap (filter (λ (word : List ℕ). ltb 0 (length word)))
    (cond-true (is_blank b) ([] ∷ parts) (onto_first b parts) h)

whole_word : (w : List ℕ) → NonePasses is_blank w → words_in w ≡ with_word w []
unfolding words_in
whole_word [] h = refl
whole_word (x ∷ w) h =
    ap (filter (λ (word : List ℕ). ltb 0 (length word))) (slice_split_none is_blank (x ∷ w) h)
    ∙ cond-true (ltb 0 (length (x ∷ w))) ((x ∷ w) ∷ []) [] (lt-ltb 0 (length (x ∷ w)) (omega arith))

-- a word before a blank
word_before : (x : ℕ) (w : List ℕ) (b : ℕ) (bs : List ℕ) → NonePasses is_blank (x ∷ w) → is_blank b ≡ true
    → words_in ((x ∷ w) ++ b ∷ bs) ≡ (x ∷ w) ∷ words_in (b ∷ bs)
unfolding words_in
word_before x w b bs h e =
    ap (filter (λ (word : List ℕ). ltb 0 (length word))) (slice_split_at is_blank (x ∷ w) b bs h e)
    ∙ cond-true (ltb 0 (length (x ∷ w))) ((x ∷ w) ∷ words_in bs) (words_in bs)
    (lt-ltb 0 (length (x ∷ w)) (omega arith))
    ∙ ap (λ (words : List (List ℕ)). (x ∷ w) ∷ words) (sym (skip_blank b bs e))

-- a stop that is no line end, and what follows it in its line
behind_stop : (s : ℕ) (xs : List ℕ) → is_line_end s ≡ false → eqb s 13 ≡ false
    → strip_carriage_return (before_first is_line_end (s ∷ xs))
    ≡ s ∷ strip_carriage_return (before_first is_line_end xs)
behind_stop s xs no_end no_return =
    ap strip_carriage_return (first_fails is_line_end s xs no_end)
    ∙ strip_first s (before_first is_line_end xs) no_return

pub skip_one : (b : ℕ) (bs : List ℕ) → is_blank b ≡ true → words_at (b ∷ bs) ≡ words_at bs
unfolding words_at words_of
skip_one b bs h =
    ap (λ (l : List ℕ). words_in (before_first is_hash l))
    (behind_stop b bs (grind (arith, nat_tests)) (grind (arith, nat_tests)))
    ∙ ap words_in (first_fails is_hash b (strip_carriage_return (before_first is_line_end bs))
    (grind (arith, nat_tests)))
    ∙ skip_blank b (before_first is_hash (strip_carriage_return (before_first is_line_end bs))) h

-- no word begins in a comment, nor at a line's end
comment : (s : ℕ) (xs : List ℕ) → is_hash s ≡ true → words_at (s ∷ xs) ≡ []
unfolding words_at words_of words_in
comment s xs h =
    ap (λ (l : List ℕ). words_in (before_first is_hash l))
    (behind_stop s xs (grind (arith, nat_tests)) (grind (arith, nat_tests)))
    ∙ ap words_in (first_passes is_hash s (strip_carriage_return (before_first is_line_end xs)) h)

line_end : (s : ℕ) (xs : List ℕ) → is_line_end s ≡ true → words_at (s ∷ xs) ≡ []
unfolding words_at words_of words_in
line_end s xs h = ap words_of (first_passes is_line_end s xs h)

nothing : words_at [] ≡ []
unfolding words_at words_of words_in
nothing = refl

-- a word at the end of a line is without its carriage return
last_word : (w xs : List ℕ) → NonePasses is_stop w → before_first is_line_end xs ≡ []
    → words_at (w ++ xs) ≡ with_word (strip_carriage_return w) []
unfolding words_at words_of
last_word w xs h e =
    let word = strip_carriage_return w in
    let free = no_stop word (strip_passes is_stop w h) in
    ap words_of (front_fails is_line_end w xs (no_stop w h).1 ∙ ap (λ (l : List ℕ). w ++ l) e ∙ append-nil w)
    ∙ ap words_in (all_before is_hash word free.2) ∙ whole_word word free.0

-- a word before a blank or a comment
word_then : (x : ℕ) (w : List ℕ) (s : ℕ) (xs : List ℕ) → NonePasses is_stop (x ∷ w) → is_stop s ≡ true
    → is_line_end s ≡ false → words_at ((x ∷ w) ++ s ∷ xs) ≡ (x ∷ w) ∷ words_at (s ∷ xs)
unfolding words_at words_of
word_then x w s xs h stop no_end =
    let free = no_stop (x ∷ w) h in
    let line = strip_carriage_return (before_first is_line_end xs) in
    let past = behind_stop s xs no_end (grind (arith, nat_tests)) in
    let cut : strip_carriage_return (before_first is_line_end ((x ∷ w) ++ s ∷ xs)) ≡ (x ∷ w) ++ s ∷ line =
    ap strip_carriage_return (front_fails is_line_end (x ∷ w) (s ∷ xs) free.1
    ∙ ap (λ (l : List ℕ). (x ∷ w) ++ l) (first_fails is_line_end s xs no_end))
    ∙ strip_front (x ∷ w) s (before_first is_line_end xs)
    ∙ ap (λ (l : List ℕ). (x ∷ w) ++ l)
    (strip_first s (before_first is_line_end xs) (grind (arith, nat_tests))) in
    let content = ap (before_first is_hash) cut ∙ front_fails is_hash (x ∷ w) (s ∷ line) free.2 in
    let rest : words_at (s ∷ xs) ≡ words_in (before_first is_hash (s ∷ line)) =
    ap (λ (l : List ℕ). words_in (before_first is_hash l)) past in
    ap words_in content ∙ ⊎_elim
    (λ blank.
    let more = first_fails is_hash s line (grind (arith, nat_tests)) in
    ap (λ (l : List ℕ). words_in ((x ∷ w) ++ l)) more
    ∙ word_before x w s (before_first is_hash line) free.0 blank
    ∙ ap (λ (l : List ℕ). (x ∷ w) ∷ words_in l) (sym more)
    ∙ ap (λ (words : List (List ℕ)). (x ∷ w) ∷ words) (sym rest))
    (λ hash.
    ap (λ (l : List ℕ). words_in ((x ∷ w) ++ l)) (first_passes is_hash s line hash)
    ∙ ap words_in (append-nil (x ∷ w)) ∙ whole_word (x ∷ w) free.0
    ∙ ap (λ (words : List (List ℕ)). (x ∷ w) ∷ words) (sym (comment s xs hash)))
    (which_stop s stop no_end)

-- a word before a blank or a comment, or none where a comment begins
broken : (w : List ℕ) (s : ℕ) (rest xs : List ℕ) → xs ≡ w ++ s ∷ rest → NonePasses is_stop w
    → is_stop s ≡ true → is_line_end s ≡ false → starts_blank xs ≡ false
    → words_at xs ≡ with_word w (words_at (s ∷ rest))
broken [] s rest xs e h stop no_end begins =
    let first : is_blank s ≡ false = sym (ap starts_blank e) ∙ begins in
    ap words_at e ∙ comment s rest (grind (arith, nat_tests))
broken (x ∷ w) s rest xs e h stop no_end begins = ap words_at e ∙ word_then x w s rest h stop no_end

-- ---- what the code finds

pub blank_first : (xs : List ℕ) → starts_blank xs ≡ true
    → (words_at (drop 1 xs) ≡ words_at xs) × (line_after (drop 1 xs) ≡ line_after xs) × (1 ≤ length xs)
blank_first [] h = absurd cc
blank_first (b ∷ bs) h = (
  sym (skip_one b bs h),
  sym (cond-false (is_line_end b) bs (line_after bs) (grind (arith, nat_tests))),
  omega arith,
)

pub end_first : (xs : List ℕ) → starts_end xs ≡ true → words_at xs ≡ []
end_first [] h = absurd cc
end_first (b ∷ bs) h = line_end b bs h

pub stop_at : (xs : List ℕ) (i : ℕ) → ((k : ℕ) → k < i → is_stop (get_or xs k 0) ≡ false) → i < length xs
    → is_stop (get_or xs i 0) ≡ true → i ≡ position_or_len is_stop xs
stop_at xs i h within e = sym (position_or_len_is is_stop xs i 0 (omega (arith, within)) h (λ inside. e))

pub no_stop_at : (xs : List ℕ) (i : ℕ) → ((k : ℕ) → k < i → is_stop (get_or xs k 0) ≡ false) → i ≡ length xs
    → i ≡ position_or_len is_stop xs
no_stop_at xs i h all =
    sym (position_or_len_is is_stop xs i 0 (omega (arith, all)) h
    (λ inside. absurd (omega (arith, all, inside))))

module _ (xs : List ℕ) (i : ℕ) (e : i ≡ position_or_len is_stop xs) where
  pub word_to_end : i ≡ length xs
      → (words_at xs ≡ with_word (strip_carriage_return xs) (words_at (drop i xs)))
      × (line_after (drop i xs) ≡ line_after xs)
  word_to_end all =
      let free = all_fail is_stop xs (omega (arith, e, all)) in
      let none = drop_all i xs (omega (arith, all)) in
      let whole = sym (append-nil xs) in (
        ap words_at whole ∙ last_word xs [] free refl
            ∙ ap (with_word (strip_carriage_return xs)) (sym (ap words_at none ∙ nothing)),
        ap line_after none ∙ sym (ap line_after whole ∙ same_line xs [] (no_stop xs free).1),
      )

  pub line_goes_on : i < length xs → line_after (drop i xs) ≡ line_after xs
  line_goes_on within =
      let p = parts is_stop xs i e within in
      sym (ap line_after (p.0 ∙ ap (λ (l : List ℕ). take i xs ++ l) (sym p.1))
      ∙ same_line (take i xs) (drop i xs) (no_stop (take i xs) p.2).1)

  pub ended_word : i < length xs → get_or xs i 0 ≡ 10
      → words_at xs ≡ with_word (strip_carriage_return (take i xs)) (words_at (drop i xs))
  ended_word within ten =
      let p = parts is_stop xs i e within in
      let ends : is_line_end (get_or xs i 0) ≡ true = grind (arith, nat_tests) in
      let rest = drop (i + 1) xs in
      let here : words_at (drop i xs) ≡ [] = ap words_at p.1 ∙ line_end (get_or xs i 0) rest ends in
      ap words_at p.0
      ∙ last_word (take i xs) (get_or xs i 0 ∷ rest) p.2 (first_passes is_line_end (get_or xs i 0) rest ends)
      ∙ ap (with_word (strip_carriage_return (take i xs))) (sym here)

  -- a word before a comment, or before a blank
  pub broken_word : i < length xs → starts_blank xs ≡ false → get_or xs i 0 ≢ 10
      → words_at xs ≡ with_word (take i xs) (words_at (drop i xs))
  broken_word within begins other =
      let p = parts is_stop xs i e within in
      broken (take i xs) (get_or xs i 0) (drop (i + 1) xs) xs p.0 p.2 p.3 (grind (arith, nat_tests)) begins
      ∙ ap (λ (l : List ℕ). with_word (take i xs) (words_at l)) (sym p.1)

  pub past_blank : i < length xs → starts_blank xs ≡ false → get_or xs i 0 ≢ 10 → get_or xs i 0 ≢ 35
      → (words_at xs ≡ with_word (take i xs) (words_at (drop (i + 1) xs)))
      × (line_after (drop (i + 1) xs) ≡ line_after xs)
  past_blank within begins other no_hash =
      let p = parts is_stop xs i e within in
      let b = get_or xs i 0 in
      let rest = drop (i + 1) xs in
      let stop : is_stop b ≡ true = p.3 in
      let blank : is_blank b ≡ true = grind (arith, nat_tests) in
      let same : words_at (drop i xs) ≡ words_at rest = ap words_at p.1 ∙ skip_one b rest blank in
      let line : line_after (drop i xs) ≡ line_after rest = ap line_after p.1
      ∙ cond-false (is_line_end b) rest (line_after rest) (grind (arith, nat_tests)) in (
        broken_word within begins other ∙ ap (with_word (take i xs)) same,
        sym line ∙ line_goes_on within,
      )

pub no_word : (word : List ℕ) (words : List (List ℕ)) → length word ≡ 0 → with_word word words ≡ []
no_word [] words e = refl
no_word (b ∷ bs) words e = absurd (omega (arith, e))

pub one_word : (word : List ℕ) (words : List (List ℕ)) → length word ≢ 0 → with_word word words ≡ word ∷ words
one_word [] words e = absurd (e refl)
one_word (b ∷ bs) words e = refl
