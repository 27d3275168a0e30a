-- The texts of worked journals, the numbers of lines, and what the end of a full line says.
use Rattle.hd_model.specs.{declared.data.Entry.Entry, declared.data.Grown.Grown, declared.data.Slot.Slot}
use Rattle.hd_model.proofs.Basics.{List, None, Option, Some, State, [], ap, append-nil, append_assoc, arith, cond, eq-eqb, if◌then◌else◌, length, map, ne_eqb, nat_le, refl, reply_text, start_of, stay, suc, sum_by-append, sum_by-cons, sym, ℕ, ◌++◌, ◌+◌, ◌==◌, ◌∙◌, ◌∷◌, ◌≡◌}
use Rattle.std.specs.{Fmt.digits, FinMap.len, Prelude.codes, Prelude.count_by, Prelude.decimal, Prelude.drop, Prelude.get_or, Prelude.slice_get}
use Rattle.std.specs.Str.Parse.{AllDigits, digits_value}
use Rattle.std.proofs.lemmas.Fmt.{decimal_is_IsNumeral}
use Rattle.std.proofs.lemmas.Str.Parse.{digit_from_value}
use Rattle.std.proofs.lemmas.Bool.{cond-true, le-leb}
use Rattle.hd_model.specs.declared.data.Grown.TheVariants.{Back, One, Two, Zero}
use Rattle.hd_model.specs.Text.{end_text, lines_of, numbered_after}
use Rattle.hd_model.specs.Generated.{load_text}
use Rattle.hd_model.specs.RunTexts.{list_of, missing}
use Rattle.hd_model.specs.FullText.{full_lines, growth_text, slot_text}
use Rattle.std.specs.List.{concat}
use Rattle.hd_laws.specs.TextLaws.{AreNext, CallersCountTheirLines, EmptyTextsLackLineOne, HasNoneOf, IsShort, IsShortGrowth, IsShortSlot, TextsAreThese, TextsGiveSlotsAndBlocks, all_replies, all_reply_texts, eleven, full_eleven, line, plain_eleven}

-- ---- worked texts

plain_is : lines_of eleven ++ end_text 3 4 2 ≡ plain_eleven
unfolding digits
plain_is = refl

full_is : concat (full_lines eleven) ++ end_text 3 4 2 ≡ full_eleven
unfolding digits
full_is = refl

replies_are : map reply_text all_replies ≡ all_reply_texts
unfolding digits
replies_are = refl

load_is : load_text 32 4 0 1 10
    ≡ line (codes "load callers 4 commands 32 made 4 live 0 collections 1 sum 10")
unfolding digits
load_is = refl

-- the last line of a state with three handles and four objects
last_is : (s : State) → len s.handles ≡ 3 → len s.objects ≡ 4
    → end_text (len s.handles) (len s.objects) 2 ≡ end_text 3 4 2
last_is s handles objects = λ i. end_text (handles i) (objects i) 2

pub texts_are_these : TextsAreThese
texts_are_these = record {
  plain = λ s handles objects.
      ap (λ (end : List ℕ). lines_of eleven ++ end) (last_is s handles objects) ∙ plain_is;
  full = λ s handles objects.
      ap (λ (end : List ℕ). concat (full_lines eleven) ++ end) (last_is s handles objects) ∙ full_is;
  replies = replies_are;
  kinds = refl;
  load = load_is;
}

-- ---- numbers of lines

-- the entries of a caller
abbrev of_caller : ℕ → List Entry → ℕ
of_caller caller es = count_by (λ (other : Entry). other.caller == caller) es

none_of : (caller : ℕ) (es : List Entry) → HasNoneOf caller es → of_caller caller es ≡ 0
none_of caller [] none = refl
none_of caller (e ∷ es) none =
    sum_by-cons (λ (other : Entry). cond (other.caller == caller) 1 0) e es
    ∙ (λ i. cond (ne_eqb e.caller caller (none 0 e (omega arith)) i) 1 0
    + none_of caller es (λ k d in_range. none (suc k) d (omega arith)) i)

module _ (write : Entry → ℕ → List ℕ) where
  as_many : (before es : List Entry) → length (numbered_after write before es) ≡ length es
  as_many before [] = refl
  as_many before (e ∷ es) = ap suc (as_many (before ++ e ∷ []) es)

  line_at : (start before : List Entry) (e : Entry) (after : List Entry)
      → slice_get (numbered_after write start (before ++ (e ∷ after))) (length before)
      ≡ Some (write e (of_caller e.caller (start ++ before) + 1))
  line_at start [] e after =
      ap (λ (es : List Entry). Some (write e (of_caller e.caller es + 1))) (sym (append-nil start))
  line_at start (b ∷ before) e after =
      line_at (start ++ b ∷ []) before e after
      ∙ ap (λ (es : List Entry). Some (write e (of_caller e.caller es + 1)))
      (append_assoc start (b ∷ []) before)

  first : (before : List Entry) (e : Entry) (after : List Entry) → HasNoneOf e.caller before
      → slice_get (numbered_after write [] (before ++ (e ∷ after))) (length before) ≡ Some (write e 1)
  first before e after none =
      line_at [] before e after ∙ ap (λ k. Some (write e (k + 1))) (none_of e.caller before none)

  -- one more is of the caller where its entry is followed by none of it
  one_more : (before : List Entry) (d : Entry) (between : List Entry) (caller : ℕ) → d.caller ≡ caller
      → HasNoneOf caller between
      → of_caller caller (before ++ (d ∷ between)) ≡ of_caller caller before + 1
  one_more before d between caller same none =
      let test : Entry → ℕ = λ other. cond (other.caller == caller) 1 0 in
      let is : test d ≡ 1 = ap (λ b. cond b 1 0) (eq-eqb d.caller caller same) in
      sum_by-append test before (d ∷ between)
      ∙ ap (λ k. of_caller caller before + k)
      (sum_by-cons test d between ∙ (λ i. is i + none_of caller between none i))

  next : (before : List Entry) (d : Entry) (between : List Entry) (e : Entry) (after : List Entry)
      → d.caller ≡ e.caller → HasNoneOf e.caller between
      → AreNext write d e (numbered_after write [] (before ++ (d ∷ (between ++ (e ∷ after)))))
      (length before) (length (before ++ (d ∷ between)))
  next before d between e after same none = record {
    number = of_caller d.caller before + 1;
    first_is = line_at [] before d (between ++ (e ∷ after));
    second_is =
        ap (λ (es : List Entry). slice_get (numbered_after write [] es) (length (before ++ (d ∷ between))))
        (sym (append_assoc before (d ∷ between) (e ∷ after)))
        ∙ line_at [] (before ++ (d ∷ between)) e after
        ∙ ap (λ k. Some (write e (k + 1))) (one_more before d between e.caller same none
        ∙ ap (λ c. of_caller c before + 1) (sym same));
  }

pub callers_count_their_lines : CallersCountTheirLines
callers_count_their_lines write = record {
  one_each = as_many write [];
  first_is_one = first write;
  next_is_one_more = next write;
}

pub empty_texts_lack_line_one : EmptyTextsLackLineOne
empty_texts_lack_line_one n lists =
    missing {journal = []} {s = start_of n} {left = list_of lists}
    (record { run = stay; parts = λ caller. refl }) refl

-- ---- the end of a full line, read back

-- the digits that bytes begin with, and what comes after them
abbrev front : List ℕ → List ℕ
front [] = []
front (b ∷ bytes) = if nat_le 48 b then b ∷ front bytes else []

abbrev back : List ℕ → List ℕ
back [] = []
back (b ∷ bytes) = if nat_le 48 b then back bytes else b ∷ bytes

-- a numeral ends where no digit comes
module _ (rest : List ℕ) (none : front rest ≡ []) (all : back rest ≡ rest) where
  front_of : (ds : List ℕ) → AllDigits 10 ds → front (ds ++ rest) ≡ ds
  front_of [] is = none
  front_of (d ∷ ds) is =
      cond-true (nat_le 48 d) (d ∷ front (ds ++ rest)) []
      (le-leb 48 d (omega (arith, digit_from_value d is.0)))
      ∙ ap (λ (t : List ℕ). d ∷ t) (front_of ds is.1)

  back_of : (ds : List ℕ) → AllDigits 10 ds → back (ds ++ rest) ≡ rest
  back_of [] is = all
  back_of (d ∷ ds) is =
      cond-true (nat_le 48 d) (back (ds ++ rest)) (d ∷ ds ++ rest)
      (le-leb 48 d (omega (arith, digit_from_value d is.0))) ∙ back_of ds is.1

  number_of : (n : ℕ) → IsShort n → digits_value 10 (front (decimal n ++ rest)) ≡ n
  number_of n short =
      let numeral = decimal_is_IsNumeral n short in
      ap (digits_value 10) (front_of (decimal n) numeral.0.1) ∙ numeral.1

  after_number : (n : ℕ) → IsShort n → back (decimal n ++ rest) ≡ rest
  after_number n short = back_of (decimal n) (decimal_is_IsNumeral n short).0.1

-- a numeral at the end
number_alone : (n : ℕ) → IsShort n → digits_value 10 (front (decimal n)) ≡ n
number_alone n short =
    ap (λ (t : List ℕ). digits_value 10 (front t)) (sym (append-nil (decimal n)))
    ∙ number_of [] refl refl n short

none_after : (n : ℕ) → IsShort n → back (decimal n) ≡ []
none_after n short = ap back (sym (append-nil (decimal n))) ∙ after_number [] refl refl n short

-- the byte after the blank says what comes: 64 a slot, 43 blocks in use, 45 one that was given back
abbrev mark : List ℕ → ℕ
mark text = get_or text 1 0

abbrev slot_in : List ℕ → Option Slot
slot_in text =
    if mark text == 64 then Some (record { 0 = digits_value 10 (front (drop 2 text)) }) else None

abbrev after_slot : List ℕ → List ℕ
after_slot text = if mark text == 64 then back (drop 2 text) else text

abbrev blocks_in : ℕ → List ℕ → Grown
blocks_in block [] = One block
blocks_in block (b ∷ text) = Two block (digits_value 10 (front text))

abbrev growth_in : List ℕ → Grown
growth_in text =
    if mark text == 43 then blocks_in (digits_value 10 (front (drop 2 text))) (back (drop 2 text))
    else if mark text == 45 then Back (digits_value 10 (front (drop 2 text))) else Zero

no_digit : (grown : Grown) → front (growth_text grown) ≡ []
no_digit Zero = refl
no_digit (One block) = refl
no_digit (Two block other) = refl
no_digit (Back block) = refl

all_left : (grown : Grown) → back (growth_text grown) ≡ growth_text grown
all_left Zero = refl
all_left (One block) = refl
all_left (Two block other) = refl
all_left (Back block) = refl

slot_again : (slot : Option Slot) (grown : Grown) → IsShortSlot slot
    → slot_in (slot_text slot ++ growth_text grown) ≡ slot
slot_again None Zero short = refl
slot_again None (One block) short = refl
slot_again None (Two block other) short = refl
slot_again None (Back block) short = refl
slot_again (Some slot) grown short =
    let some : ℕ → Option Slot = λ k. Some (record { 0 = k }) in
    ap some (number_of (growth_text grown) (no_digit grown) (all_left grown) slot.0 short)

rest_again : (slot : Option Slot) (grown : Grown) → IsShortSlot slot
    → after_slot (slot_text slot ++ growth_text grown) ≡ growth_text grown
rest_again None Zero short = refl
rest_again None (One block) short = refl
rest_again None (Two block other) short = refl
rest_again None (Back block) short = refl
rest_again (Some slot) grown short =
    after_number (growth_text grown) (no_digit grown) (all_left grown) slot.0 short

growth_again : (grown : Grown) → IsShortGrowth grown → growth_in (growth_text grown) ≡ grown
growth_again Zero short = refl
growth_again (One block) short =
    (λ i. blocks_in (number_alone block short i) (none_after block short i))
growth_again (Two block other) short =
    ap (λ (t : List ℕ). blocks_in (digits_value 10 (front t)) (back t))
    (append_assoc (decimal block) (codes ",") (decimal other))
    ∙ (λ i. blocks_in (number_of (44 ∷ decimal other) refl refl block short.0 i)
    (after_number (44 ∷ decimal other) refl refl block short.0 i))
    ∙ ap (Two block) (number_alone other short.1)
growth_again (Back block) short = ap Back (number_alone block short)

pub texts_give_slots_and_blocks : TextsGiveSlotsAndBlocks
texts_give_slots_and_blocks slot other grown growth a b c d same = (
  sym (slot_again slot grown a) ∙ ap slot_in same ∙ slot_again other growth b,
  sym (growth_again grown c) ∙ ap growth_in (sym (rest_again slot grown a))
      ∙ ap (λ (t : List ℕ). growth_in (after_slot t)) same ∙ ap growth_in (rest_again other growth b)
      ∙ growth_again growth d,
)
