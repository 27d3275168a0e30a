-- Bytes cut into lines.
use Rattle.std.proofs.Common.{Bool, List, None, Some, [], ap, arith, cond, drop, false, length, ltb, ltb-false, ltb-true, not, refl, suc, sym, take, true, ℕ, ◌+◌, ◌<◌, ◌∙◌, ◌∷◌, ◌≡◌, ◌≤◌}
use Rattle.std.proofs.lemmas.Option.{none-some, same_Some}
use Rattle.std.specs.List.{concat, position, position_or_len}
use Rattle.hd_model.specs.Grammar.{is_line_end}
use Rattle.hd_model.specs.RunTexts.{onto_line, cut_lines}

-- the lines, one after another, are the bytes
onto_is : (b : ℕ) (lines : List (List ℕ)) → concat (onto_line b lines) ≡ b ∷ concat lines
onto_is b [] = refl
onto_is b (line ∷ lines) = refl

either_is : (t : Bool) (xs ys : List (List ℕ)) (bytes : List ℕ) → concat xs ≡ bytes → concat ys ≡ bytes
    → concat (cond t xs ys) ≡ bytes
either_is true xs ys bytes a b = a
either_is false xs ys bytes a b = b

pub lines_again : (bytes : List ℕ) → concat (cut_lines bytes) ≡ bytes
lines_again [] = refl
lines_again (b ∷ bytes) =
    let rest = ap (λ (t : List ℕ). b ∷ t) (lines_again bytes) in
    either_is (is_line_end b) ((b ∷ []) ∷ cut_lines bytes) (onto_line b (cut_lines bytes)) (b ∷ bytes) rest
    (onto_is b (cut_lines bytes) ∙ rest)

-- the index of the first byte that ends a line, or the length
abbrev line_end : List ℕ → ℕ
line_end bytes = position_or_len is_line_end bytes

-- the first line is cut off behind that byte
cut_once : (b k : ℕ) (bytes : List ℕ) (t : Bool) → cond (not t) (1 + k) 0 < suc (length bytes)
    → (k < length bytes → cut_lines bytes ≡ take (suc k) bytes ∷ cut_lines (drop (suc k) bytes))
    → cond t ((b ∷ []) ∷ cut_lines bytes) (onto_line b (cut_lines bytes))
    ≡ take (suc (cond (not t) (1 + k) 0)) (b ∷ bytes)
    ∷ cut_lines (drop (suc (cond (not t) (1 + k) 0)) (b ∷ bytes))
cut_once b k bytes true within later = refl
cut_once b k bytes false within later =
    let same : suc k ≡ 1 + k = omega arith in
    ap (onto_line b) (later (omega (arith, within)))
    ∙ ap (λ m. (b ∷ take m bytes) ∷ cut_lines (drop m bytes)) same

cut_here : (bytes : List ℕ) → line_end bytes < length bytes
    → cut_lines bytes ≡ take (suc (line_end bytes)) bytes ∷ cut_lines (drop (suc (line_end bytes)) bytes)
cut_here [] within = absurd (omega (arith, within))
cut_here (b ∷ bytes) within = cut_once b (line_end bytes) bytes (is_line_end b) within (cut_here bytes)

-- bytes without one are one line
uncut_once : (b : ℕ) (bytes : List ℕ) (t : Bool) → suc (length bytes) ≤ cond (not t) (1 + line_end bytes) 0
    → ((c : ℕ) (rest : List ℕ) → bytes ≡ c ∷ rest → length bytes ≤ line_end bytes
    → cut_lines bytes ≡ bytes ∷ [])
    → cond t ((b ∷ []) ∷ cut_lines bytes) (onto_line b (cut_lines bytes)) ≡ (b ∷ bytes) ∷ []
uncut_once b bytes true past later = absurd (omega (arith, past))
uncut_once b [] false past later = refl
uncut_once b (c ∷ rest) false past later = ap (onto_line b) (later c rest refl (omega (arith, past)))

uncut : (bytes : List ℕ) → 0 < length bytes → length bytes ≤ line_end bytes → cut_lines bytes ≡ bytes ∷ []
uncut [] some past = absurd (omega (arith, some))
uncut (b ∷ bytes) some past =
    uncut_once b bytes (is_line_end b) past (λ c rest is. uncut bytes (some_in bytes c rest is))
  where
    some_in : (xs : List ℕ) (c : ℕ) (rest : List ℕ) → xs ≡ c ∷ rest → 0 < length xs
    some_in xs c rest is = let same = ap (λ (l : List ℕ). length l) is in omega (arith, same)

-- by the first byte that ends a line
pub cut_at : (bytes : List ℕ) (end : ℕ) → position is_line_end bytes ≡ Some end
    → cut_lines bytes ≡ take (end + 1) bytes ∷ cut_lines (drop (end + 1) bytes)
cut_at bytes end is =
    by (ltb (line_end bytes) (length bytes)) refl is
  where
    by : (t : Bool) → ltb (line_end bytes) (length bytes) ≡ t → cond t (Some (line_end bytes)) None ≡ Some end
        → cut_lines bytes ≡ take (end + 1) bytes ∷ cut_lines (drop (end + 1) bytes)
    by true within same =
        let number : suc (line_end bytes) ≡ end + 1 = omega (arith, same_Some (line_end bytes) end same) in
        cut_here bytes (ltb-true (line_end bytes) (length bytes) within)
        ∙ ap (λ k. take k bytes ∷ cut_lines (drop k bytes)) number
    by false past same = absurd (none-some end same)

pub cut_nowhere : (bytes : List ℕ) → 0 < length bytes → position is_line_end bytes ≡ None
    → cut_lines bytes ≡ bytes ∷ []
cut_nowhere bytes some is = by (ltb (line_end bytes) (length bytes)) refl is
  where
    by : (t : Bool) → ltb (line_end bytes) (length bytes) ≡ t → cond t (Some (line_end bytes)) None ≡ None
        → cut_lines bytes ≡ bytes ∷ []
    by true within same = absurd (none-some (line_end bytes) (sym same))
    by false past same = uncut bytes some (ltb-false (line_end bytes) (length bytes) past)
