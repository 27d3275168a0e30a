-- Words of numbers and of identities are texts.
use Rattle.std.proofs.Common.{Bool, List, [], arith, cond, drop, eqb, false, lit<, refl, subst, sym, true, ℕ, ◌++◌, ◌/◌, ◌%◌, ◌^◌, ◌∷◌, ◌≡◌}
use Rattle.std.specs.Prelude.{IsAscii, IsUtf8, codes, decimal}
use Rattle.std.specs.Str.Parse.{IsNumeral, without_leading_plus}
use Rattle.std.proofs.lemmas.Bool.{eqb-true}
use Rattle.std.proofs.lemmas.Fmt.{IsAscii-decimal, IsAscii-from_digits}
use Rattle.std.proofs.lemmas.Str.{IsAscii-append, IsUtf8-from_ascii}
use Rattle.std.proofs.lemmas.Str.Ascii.{IsAscii-cons, IsAscii-nil}
use Rattle.hd_model.specs.declared.data.Id.{Id}
use Rattle.hd_path.specs.Words.{IsIdWord}
use Rattle.hd_talk.specs.Answers.{IsSlotWord}

-- digits behind a plus, or alone
digits_are_ascii : (b : ℕ) (bs : List ℕ) (t : Bool) → eqb b 43 ≡ t
    → IsNumeral 10 (drop (cond t 1 0) (b ∷ bs)) → IsAscii (b ∷ bs)
digits_are_ascii b bs true plus n =
    IsAscii-cons b bs (omega (arith, eqb-true b 43 plus)) (IsAscii-from_digits bs n.1)
digits_are_ascii b bs false plus n = IsAscii-from_digits (b ∷ bs) n.1

numeral_is_ascii : (word : List ℕ) → IsNumeral 10 (without_leading_plus word) → IsAscii word
numeral_is_ascii [] n = IsAscii-nil
numeral_is_ascii (b ∷ bs) n = digits_are_ascii b bs (eqb b 43) refl n

pub slot_word_is_text : (slot : ℕ) (word : List ℕ) → IsSlotWord slot word → IsUtf8 word
slot_word_is_text slot word w = IsUtf8-from_ascii word (numeral_is_ascii word w.digits)

pub identity_is_text : (x : Id) (word : List ℕ) → IsIdWord x word → IsUtf8 word
identity_is_text x word w =
    let a : ℕ = x.0 / 2 ^ 32 in
    let b : ℕ = x.0 % 2 ^ 32 in
    let dot : List ℕ = codes "." in
    let first = IsAscii-append (decimal a) dot (IsAscii-decimal a (omega (arith, w.caller)))
    (IsAscii-cons 46 [] (lit< tt) IsAscii-nil) in
    subst IsUtf8 (sym w.text) (IsUtf8-from_ascii ((decimal a ++ dot) ++ decimal b)
    (IsAscii-append (decimal a ++ dot) (decimal b) first (IsAscii-decimal b (omega arith))))
