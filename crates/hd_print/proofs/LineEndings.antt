-- What follows the reply in a full line determines the slot and the growth.
use Rattle.hd_print.proofs.Basics.{All, Bool, List, None, Option, Some, [], ap, append_assoc, arith, decimal, drop, false, get_or, refl, slice_split, subst, sym, ℕ, ◌++◌, ◌∙◌, ◌∷◌, ◌≡◌}
use Rattle.std.specs.Prelude.{not}
use Rattle.std.specs.Char.{is_ascii_digit}
use Rattle.std.proofs.{lemmas.Fmt.decimal_injective, lemmas.List.append_cancel_left, lemmas.List.Splits.slice_split_at}
use Rattle.hd_model.specs.declared.data.Slot.{Slot}
use Rattle.hd_model.specs.declared.data.Grown.{Grown}
use Rattle.hd_model.specs.declared.data.Grown.TheVariants.{Zero, One, Two, Back}
use Rattle.hd_model.specs.Text.{newline}
use Rattle.hd_model.specs.FullText.{slot_text, growth_text}
use Rattle.hd_print.specs.EntryLines.{IsSmall, IsSmallSlot, IsSmallGrowth}
use Rattle.hd_print.proofs.Numerals.{digits_again}
use Rattle.hd_print.proofs.LineWords.{all_fail}

-- bytes whose first one is no digit
abbrev pub StartsOff : List ℕ → Type 0
StartsOff [] = ⊥
StartsOff (b ∷ bytes) = is_ascii_digit b ≡ false

-- the parts of bytes between those that are no digits
abbrev is_off : ℕ → Bool
is_off b = not (is_ascii_digit b)

abbrev first_digits : List ℕ → List ℕ
first_digits bytes = get_or (slice_split is_off bytes) 0 []

digits_are : (n : ℕ) → IsSmall n → All (λ b. is_off b ≡ false) (decimal n)
digits_are n small = all_fail is_ascii_digit is_off (λ b h. ap not h) (decimal n) (digits_again n small)

digits_first : (n : ℕ) (rest : List ℕ) → IsSmall n → StartsOff rest
    → first_digits (decimal n ++ rest) ≡ decimal n
digits_first n [] small off = absurd off
digits_first n (b ∷ rest) small off =
    ap (λ (parts : List (List ℕ)). get_or parts 0 [])
    (slice_split_at is_off (decimal n) b rest (digits_are n small) (ap not off))

-- a numeral before such bytes determines its number, and they are the same
pub numeral_determines : (m n : ℕ) (xs ys : List ℕ) → IsSmall m → IsSmall n → StartsOff xs → StartsOff ys
    → decimal m ++ xs ≡ decimal n ++ ys → (m ≡ n) × (xs ≡ ys)
numeral_determines m n xs ys small_m small_n off_x off_y same =
    let numbers : m ≡ n = decimal_injective m n small_m small_n
    (sym (digits_first m xs small_m off_x) ∙ ap first_digits same ∙ digits_first n ys small_n off_y) in (
      numbers,
      append_cancel_left (decimal n) xs ys (subst (λ k. decimal k ++ xs ≡ decimal n ++ ys) numbers same),
    )

-- the growth and the end of a line
abbrev pub growth_end : Grown → List ℕ
growth_end grown = growth_text grown ++ newline

-- the slot before them
abbrev pub slot_end : Option Slot → Grown → List ℕ
slot_end slot grown = slot_text slot ++ growth_end grown

growth_off : (grown : Grown) → StartsOff (growth_end grown)
growth_off Zero = refl
growth_off (One block) = refl
growth_off (Two block other) = refl
growth_off (Back block) = refl

pub slot_off : (slot : Option Slot) (grown : Grown) → StartsOff (slot_end slot grown)
slot_off None grown = growth_off grown
slot_off (Some slot) grown = refl

-- bytes that differ at an index are not the same
differs : {xs ys : List ℕ} (i : ℕ) → xs ≡ ys → get_or xs i 0 ≡ get_or ys i 0
differs i same = ap (λ (bytes : List ℕ). get_or bytes i 0) same

two_numerals : (block other : ℕ)
    → growth_end (Two block other) ≡ 32 ∷ 43 ∷ (decimal block ++ (44 ∷ (decimal other ++ newline)))
two_numerals block other = simp append_assoc

growth_determines : (g h : Grown) → IsSmallGrowth g → IsSmallGrowth h → growth_end g ≡ growth_end h → g ≡ h
growth_determines Zero Zero a b same = refl
growth_determines (One x) (One y) a b same =
    ap One (numeral_determines x y newline newline a b refl refl (ap (drop 2) same)).0
growth_determines (Back x) (Back y) a b same =
    ap Back (numeral_determines x y newline newline a b refl refl (ap (drop 2) same)).0
growth_determines (Two x y) (Two z w) a b same =
    let first = numeral_determines x z (44 ∷ (decimal y ++ newline)) (44 ∷ (decimal w ++ newline))
    a.0 b.0 refl refl
    (ap (drop 2) (sym (two_numerals x y) ∙ same ∙ two_numerals z w)) in
    let second = numeral_determines y w newline newline a.1 b.1 refl refl (ap (drop 1) first.1) in
    λ i. Two (first.0 i) (second.0 i)
growth_determines (One x) (Two z w) a b same =
    let rest = (numeral_determines x z newline (44 ∷ (decimal w ++ newline)) a b.0 refl refl
    (ap (drop 2) (same ∙ two_numerals z w))).1 in
    absurd (omega (arith, differs 0 rest))
growth_determines (Two x y) (One z) a b same =
    let rest = (numeral_determines x z (44 ∷ (decimal y ++ newline)) newline a.0 b refl refl
    (ap (drop 2) (sym (two_numerals x y) ∙ same))).1 in
    absurd (omega (arith, differs 0 rest))
growth_determines Zero (One y) a b same = absurd (omega (arith, differs 0 same))
growth_determines Zero (Two z w) a b same = absurd (omega (arith, differs 0 same))
growth_determines Zero (Back y) a b same = absurd (omega (arith, differs 0 same))
growth_determines (One x) Zero a b same = absurd (omega (arith, differs 0 same))
growth_determines (Two x y) Zero a b same = absurd (omega (arith, differs 0 same))
growth_determines (Back x) Zero a b same = absurd (omega (arith, differs 0 same))
growth_determines (One x) (Back y) a b same = absurd (omega (arith, differs 1 same))
growth_determines (Two x y) (Back z) a b same = absurd (omega (arith, differs 1 same))
growth_determines (Back x) (One y) a b same = absurd (omega (arith, differs 1 same))
growth_determines (Back x) (Two y z) a b same = absurd (omega (arith, differs 1 same))

-- a growth has no mark of a slot
no_slot : (grown : Grown) → get_or (growth_end grown) 1 0 ≡ 64 → ⊥
no_slot Zero same = absurd (omega (arith, same))
no_slot (One block) same = absurd (omega (arith, same))
no_slot (Two block other) same = absurd (omega (arith, same))
no_slot (Back block) same = absurd (omega (arith, same))

-- what follows a reply determines the slot and the growth
pub ending_determines : (a b : Option Slot) (g h : Grown) → IsSmallSlot a → IsSmallSlot b → IsSmallGrowth g
    → IsSmallGrowth h → slot_end a g ≡ slot_end b h → (a ≡ b) × (g ≡ h)
ending_determines None None g h a b c d same = (refl, growth_determines g h c d same)
ending_determines (Some x) (Some y) g h a b c d same =
    let parts = numeral_determines x.0 y.0 (growth_end g) (growth_end h) a b (growth_off g) (growth_off h)
    (ap (drop 2) same) in
    (λ i. Some (record { 0 = parts.0 i }), growth_determines g h c d parts.1)
ending_determines None (Some y) g h a b c d same = absurd (no_slot g (differs 1 same))
ending_determines (Some x) None g h a b c d same = absurd (no_slot h (differs 1 (sym same)))
