-- Each full line begins with two numbers that have a blank behind them.
use Rattle.std.proofs.Common.{List, Some, [], ap, arith, length, refl, true, ℕ, ◌++◌, ◌<◌, ◌∙◌, ◌∷◌, ◌≡◌, ◌^◌}
use Rattle.std.specs.Prelude.{decimal, option_and_then, option_map}
use Rattle.std.specs.Char.{is_ascii_digit}
use Rattle.std.specs.List.{list_all}
use Rattle.std.proofs.lemmas.Bool.{and_parts, cond-true}
use Rattle.std.proofs.lemmas.Fmt.{decimal_nonempty}
use Rattle.hd_model.specs.declared.data.Entry.{Entry}
use Rattle.hd_model.specs.FullText.{full_line}
use Rattle.hd_model.specs.Text.{reply_text}
use Rattle.hd_audit.proofs.ChoiceLines.{digits_are, tail_of, words_are}
use Rattle.hd_view.specs.Stated.{FullLinesStateParts, Parts, after_digits, after_number, parts_of, stated_in}

after_all : (digits rest : List ℕ) → list_all is_ascii_digit digits ≡ true
    → after_digits true (digits ++ 32 ∷ rest) ≡ Some rest
after_all [] rest h = refl
after_all (b ∷ digits) rest h =
    let both = and_parts (is_ascii_digit b) (list_all is_ascii_digit digits) h in
    cond-true (is_ascii_digit b) (after_digits true (digits ++ 32 ∷ rest)) _ both.0
    ∙ after_all digits rest both.1

after_some : (digits rest : List ℕ) → 0 < length digits → list_all is_ascii_digit digits ≡ true
    → after_number (digits ++ 32 ∷ rest) ≡ Some rest
after_some [] rest some h = absurd (omega (arith, some))
after_some (b ∷ digits) rest some h =
    let both = and_parts (is_ascii_digit b) (list_all is_ascii_digit digits) h in
    cond-true (is_ascii_digit b) (after_digits true (digits ++ 32 ∷ rest)) _ both.0
    ∙ after_all digits rest both.1

module _ (e : Entry) (number : ℕ) (caller_fits : e.caller < 2 ^ 64) (number_fits : number < 2 ^ 64) where
  abbrev tail : List ℕ
  tail = reply_text e.reply ++ tail_of e

  abbrev rest : List ℕ
  rest = decimal number ++ 32 ∷ tail

  first : after_number (full_line e number) ≡ Some rest
  first = ap after_number (words_are e number)
      ∙ after_some (decimal e.caller) rest (decimal_nonempty e.caller caller_fits) (digits_are e.caller)

  second : after_number rest ≡ Some tail
  second = after_some (decimal number) tail (decimal_nonempty number number_fits) (digits_are number)

  abbrev its_parts : Parts
  its_parts = parts_of (full_line e number) rest tail

  states : stated_in (full_line e number) ≡ Some its_parts
  states =
      ap (option_and_then (λ (r : List ℕ). option_map (parts_of (full_line e number) r) (after_number r))) first
      ∙ ap (option_map (parts_of (full_line e number) rest)) second

pub full_lines_state_parts : FullLinesStateParts
full_lines_state_parts e number caller_fits number_fits =
    (its_parts e number caller_fits number_fits, states e number caller_fits number_fits)
