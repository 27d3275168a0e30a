-- The value of decimal digits, from left to right.
use Rattle.hd_script.proofs.Basics.{List, None, Some, [], and_right, arith, at_drop_more, cond-false, drop, false, fold, get_or, is_ascii_digit, leb, length, list_all, lt-leb, ltb, sym, value_of, ℕ, ◌&&◌, ◌*◌, ◌+◌, ◌-◌, ◌<◌, ◌∙◌, ◌∷◌, ◌≡◌, ◌≤◌}
use Rattle.hd_model.specs.Grammar.{number_of}

-- one more digit after those of a number
abbrev pub with_digit : ℕ → ℕ → ℕ
with_digit n b = n * 10 + (b - 48)

-- more digits make no number smaller
pub worth_grows : (n : ℕ) (bs : List ℕ) → n ≤ fold with_digit n bs
worth_grows n [] = omega arith
worth_grows n (b ∷ bs) = omega (arith, worth_grows (with_digit n b) bs)

-- the three tests of a number
pub refused : (most : ℕ) (word : List ℕ)
    → (ltb 0 (length word) && list_all is_ascii_digit word && leb (value_of word) most) ≡ false
    → number_of most word ≡ None
unfolding number_of
refused most word h = cond-false
    (ltb 0 (length word) && list_all is_ascii_digit word && leb (value_of word) most) (Some (value_of word))
    None h

pub refused_high : (most : ℕ) (word : List ℕ) → most < value_of word → number_of most word ≡ None
refused_high most word h =
    refused most word (and_right (ltb 0 (length word) && list_all is_ascii_digit word)
    (leb (value_of word) most) (lt-leb (value_of word) most h))

-- the next digit is part of the value of the word
pub next_digit : (word : List ℕ) (i value : ℕ) → i < length word
    → fold with_digit value (drop i word) ≡ value_of word → with_digit value (get_or word i 0) ≤ value_of word
next_digit word i value within worth =
    let step = at_drop_more (fold with_digit value) word i 0 within in
    omega (arith, worth_grows (with_digit value (get_or word i 0)) (drop (i + 1) word), sym step ∙ worth)
