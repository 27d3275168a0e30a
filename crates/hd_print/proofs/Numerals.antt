-- Decimal numerals, read back.
use Rattle.hd_print.proofs.Basics.{All-from_get_or, List, None, Some, and_from, ap, arith, cond-true, decimal, decimal_nonempty, digits_decimal, digits_value-decimal, fold, get_or, le-leb, leb, length, list_all, list_all-from_AllPass, lt-ltb, ltb, rules, true, ℕ, ◌&&◌, ◌*◌, ◌+◌, ◌-◌, ◌<◌, ◌^◌, ◌∙◌, ◌≡◌, ◌≤◌}
use Rattle.std.specs.Char.{is_ascii_digit}
use Rattle.std.proofs.lemmas.Str.Parse.{IsNumeralModel, IsDigitsTest, FoldsDigits, numerals_by_fold, numerals_by_value, tells_by_index}
use Rattle.hd_model.specs.Grammar.{value_of, number_of}

-- the value of digits after those of a number
abbrev worth : ℕ → List ℕ → ℕ
worth n digits = fold (λ m b. m * 10 + (b - 48)) n digits

digits_test : IsDigitsTest (λ ds. list_all is_ascii_digit ds ≡ true)
digits_test = search rules

folds : FoldsDigits worth
folds = search rules

model : IsNumeralModel (λ ds. list_all is_ascii_digit ds ≡ true) (worth 0)
model = numerals_by_fold _ digits_test worth folds

-- a number up to a limit is read from its numeral
pub number_again : (most n : ℕ) → n ≤ most → most < 2 ^ 64 → number_of most (decimal n) ≡ Some n
unfolding number_of value_of
number_again most n within small =
    let word = decimal n in
    let fits : n < 2 ^ 64 = omega arith in
    let value : worth 0 word ≡ n = digits_value-decimal model n fits in
    let digits : list_all is_ascii_digit word ≡ true = digits_decimal model n fits in
    let both = and_from (ltb 0 (length word)) (list_all is_ascii_digit word)
    (lt-ltb 0 (length word) (decimal_nonempty n fits)) digits in
    let low : leb (worth 0 word) most ≡ true = le-leb (worth 0 word) most (omega (arith, value)) in
    let all = and_from (ltb 0 (length word) && list_all is_ascii_digit word) (leb (worth 0 word) most) both
    low in
    cond-true (ltb 0 (length word) && list_all is_ascii_digit word && leb (worth 0 word) most)
    (Some (worth 0 word)) None all ∙ ap Some value

-- and its value is the number
pub value_again : (n : ℕ) → n < 2 ^ 64 → value_of (decimal n) ≡ n
unfolding value_of
value_again n fits = digits_value-decimal model n fits

pub digits_again : (n : ℕ) → n < 2 ^ 64 → list_all is_ascii_digit (decimal n) ≡ true
digits_again n fits = digits_decimal model n fits

-- each byte of a numeral is at least that of 0
pub digit_bytes : (low : ℕ) → low ≤ 48 → (n : ℕ) → n < 2 ^ 64 → list_all (λ b. leb low b) (decimal n) ≡ true
digit_bytes low under n fits =
    let digits = digits_decimal (numerals_by_value _ tells_by_index) n fits in
    list_all-from_AllPass (λ b. leb low b) (decimal n)
    (All-from_get_or (λ b. leb low b ≡ true) (decimal n) 0
    (λ i h. le-leb low (get_or (decimal n) i 0) (omega (arith, (digits i h).0))))
