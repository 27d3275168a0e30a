-- What is read off a full line is what its entry has.
use Rattle.std.proofs.Common.{Bool, List, zero, suc, leb, ltb, rules, unwrap_or, if◌then◌else◌, ◌==◌, ◌||◌, ◌/◌, None, Option, Some, [], append_assoc, ap, arith, eq-eqb, eqb, false, fold, ne_eqb, not, option_map, refl, sym, true, ℕ, ◌%◌, ◌*◌, ◌++◌, ◌+◌, ◌-◌, ◌<◌, ◌^◌, ◌∙◌, ◌∷◌, ◌≡◌, ◌≤◌}
use Rattle.std.specs.List.{list_all}
use Rattle.std.specs.Prelude.{codes, decimal}
use Rattle.std.specs.Option.{option_map_or}
use Rattle.std.specs.Char.{is_ascii_digit, is_ascii_lowercase}
use Rattle.std.proofs.lemmas.Bool.{and_from, and_parts, cond-false, cond-true, le-leb, lt-ltb, not-true, not_from_false, or_left, true≢false}
use Rattle.std.proofs.lemmas.List.Elements.{All-weaker}
use Rattle.std.proofs.lemmas.List.Folds.{list_all-append}
use Rattle.std.proofs.lemmas.List.Sums.{AllPass-from_list_all, list_all-from_AllPass}
use Rattle.hd_model.specs.declared.data.Slot.{Slot}
use Rattle.hd_model.specs.declared.data.Grown.{Grown}
use Rattle.hd_model.specs.declared.data.Entry.{Entry}
use Rattle.hd_model.specs.declared.data.Reply.{Reply}
use Rattle.hd_model.specs.declared.data.Refusal.{Refusal}
use Rattle.hd_model.specs.declared.data.Report.{Report as CollectionReport}
use Rattle.hd_model.specs.declared.data.Id.{Id}
use Rattle.hd_model.specs.declared.data.Refusal.TheVariants.{Null, BadField, HeapFull, TableFull, NotLive, WrongKind, EmptyRegister, CountZero, Present}
use Rattle.hd_model.specs.declared.data.Reply.TheVariants.{Done, Object, Nothing, Value, Generation, Place, Report, NoneQueued, Absent, Chain, Unrooted, Refused}
use Rattle.hd_model.specs.declared.data.Grown.TheVariants.{Zero, One, Two, Back}
use Rattle.hd_model.specs.Text.{identity_text, report_text, refusal_text, reply_text, newline}
use Rattle.hd_model.specs.FullText.{slot_text, growth_text, full_line}
use Rattle.hd_script.proofs.Digits.{with_digit, worth_grows}
use Rattle.std.proofs.lemmas.Str.Parse.{IsNumeralModel, IsDigitsTest, FoldsDigits, numerals_by_fold}
use Rattle.std.proofs.lemmas.Fmt.{digits_value-decimal}
use Rattle.std.specs.Fmt.{digits, digits_onto, digit_glyph}
use Rattle.hd_plain.specs.ChosenSteps.{HasChoice}
use Rattle.hd_plain.specs.Choice.{after_mark, after_blank, leading_from, leading, slot_in, added_in, grown_in, address_in, choice_in}

-- ---- marks

-- no byte is this one
abbrev pub lacks : ℕ → List ℕ → Bool
lacks mark bytes = list_all (λ b. not (eqb b mark)) bytes

-- the bytes after the first mark are those after the one that none comes before
after_at : (mark : ℕ) (bytes rest : List ℕ) → lacks mark bytes ≡ true
    → after_mark mark (bytes ++ mark ∷ rest) ≡ Some rest
after_at mark [] rest h = cond-true (eqb mark mark) (Some rest) (after_mark mark rest) (eq-eqb mark mark refl)
after_at mark (b ∷ bytes) rest h =
    let both = and_parts (not (eqb b mark)) (lacks mark bytes) h in
    cond-false (eqb b mark) (Some (bytes ++ mark ∷ rest)) (after_mark mark (bytes ++ mark ∷ rest))
    (not-true (eqb b mark) both.0)
    ∙ after_at mark bytes rest both.1

after_none : (mark : ℕ) (bytes : List ℕ) → lacks mark bytes ≡ true → after_mark mark bytes ≡ None
after_none mark [] h = refl
after_none mark (b ∷ bytes) h =
    let both = and_parts (not (eqb b mark)) (lacks mark bytes) h in
    cond-false (eqb b mark) (Some bytes) (after_mark mark bytes) (not-true (eqb b mark) both.0)
    ∙ after_none mark bytes both.1

pub lacks-append : (mark : ℕ) (xs ys : List ℕ) → lacks mark xs ≡ true → lacks mark ys ≡ true
    → lacks mark (xs ++ ys) ≡ true
lacks-append mark xs ys a b = list_all-append (λ b. not (eqb b mark)) xs ys
    ∙ and_from (lacks mark xs) (lacks mark ys) a b

-- a mark that is no digit
abbrev IsMark : ℕ → Type 0
IsMark mark = is_ascii_digit mark ≡ false

-- each byte of a numeral is a digit, whatever the number
glyph_is : (d : ℕ) → d < 10 → is_ascii_digit (digit_glyph false d) ≡ true
glyph_is d low =
    let low_test : ltb d 10 ≡ true = lt-ltb d 10 low in
    ap is_ascii_digit (cond-true (ltb d 10) (48 + d) (87 + d) low_test)
    ∙ and_from (leb 48 (48 + d)) (leb (48 + d) 57) (le-leb 48 (48 + d) (omega arith))
    (le-leb (48 + d) 57 (omega arith))

onto_are : (k n : ℕ) (rest : List ℕ) → list_all is_ascii_digit rest ≡ true
    → list_all is_ascii_digit (digits_onto k 10 false n rest) ≡ true
onto_are zero n rest h = h
onto_are (suc k) n rest h =
    let first = digit_glyph false (n % 10) in
    let more = and_from (is_ascii_digit first) (list_all is_ascii_digit rest)
    (glyph_is (n % 10) (omega arith)) h in
    by (n / 10 == 0) (first ∷ rest) (digits_onto k 10 false (n / 10) (first ∷ rest)) more
    (onto_are k (n / 10) (first ∷ rest) more)
  where
    by : (b : Bool) (xs ys : List ℕ) → list_all is_ascii_digit xs ≡ true → list_all is_ascii_digit ys ≡ true
        → list_all is_ascii_digit (if b then xs else ys) ≡ true
    by true xs ys x y = x
    by false xs ys x y = y

pub digits_are : (n : ℕ) → list_all is_ascii_digit (decimal n) ≡ true
unfolding digits
digits_are n = onto_are 64 n [] refl

pub numeral_lacks : (mark n : ℕ) → IsMark mark → lacks mark (decimal n) ≡ true
numeral_lacks mark n free =
    let other : (b : ℕ) → is_ascii_digit b ≡ true → not (eqb b mark) ≡ true =
    λ b digit. not_from_false (eqb b mark)
    (ne_eqb b mark (λ e. true≢false (sym digit ∙ ap is_ascii_digit e ∙ free))) in
    list_all-from_AllPass (λ b. not (eqb b mark)) (decimal n)
    (All-weaker (λ b. is_ascii_digit b ≡ true) (λ b. not (eqb b mark) ≡ true) other (decimal n)
    (AllPass-from_list_all is_ascii_digit (decimal n) (digits_are n)))

-- the value of a numeral
folds : FoldsDigits (fold with_digit)
folds = search rules

digits_test : IsDigitsTest (λ ds. list_all is_ascii_digit ds ≡ true)
digits_test = search rules

model : IsNumeralModel (λ ds. list_all is_ascii_digit ds ≡ true) (fold with_digit 0)
model = numerals_by_fold _ digits_test (fold with_digit) folds

worth_again : (n : ℕ) → n < 2 ^ 64 → fold with_digit 0 (decimal n) ≡ n
worth_again n fits = digits_value-decimal model n fits

-- ---- numbers

-- no digit comes first
abbrev ends : List ℕ → Bool
ends [] = true
ends (b ∷ bytes) = not (is_ascii_digit b)

stops : (rest : List ℕ) (value : ℕ) → ends rest ≡ true → leading_from value rest ≡ value
stops [] value h = refl
stops (b ∷ rest) value h =
    cond-false (is_ascii_digit b) (leading_from ((value * 10 + (b - 48)) % 2 ^ 32) rest) value
    (not-true (is_ascii_digit b) h)

digits_lead : (digits rest : List ℕ) (value : ℕ) → list_all is_ascii_digit digits ≡ true → ends rest ≡ true
    → fold with_digit value digits < 2 ^ 32
    → leading_from value (digits ++ rest) ≡ fold with_digit value digits
digits_lead [] rest value h e small = stops rest value e
digits_lead (b ∷ digits) rest value h e small =
    let both = and_parts (is_ascii_digit b) (list_all is_ascii_digit digits) h in
    let next = value * 10 + (b - 48) in
    let grows : next ≤ fold with_digit next digits = worth_grows next digits in
    let fits : next % 2 ^ 32 ≡ next = omega (arith, grows, small) in
    cond-true (is_ascii_digit b) (leading_from (next % 2 ^ 32) (digits ++ rest)) value both.0
    ∙ ap (λ (v : ℕ). leading_from v (digits ++ rest)) fits
    ∙ digits_lead digits rest next both.1 e small

-- the number with which a numeral begins is its own
number_leads : (n : ℕ) (rest : List ℕ) → n < 2 ^ 32 → ends rest ≡ true → leading (decimal n ++ rest) ≡ n
number_leads n rest small e =
    let worth : fold with_digit 0 (decimal n) ≡ n = worth_again n (omega arith) in
    digits_lead (decimal n) rest 0 (digits_are n) e (omega (arith, worth)) ∙ worth

-- ---- bytes without marks

-- a byte of a reply: a digit, a letter, a dot or a blank
abbrev is_plain : ℕ → Bool
is_plain b = is_ascii_digit b || (is_ascii_lowercase b || (b == 46 || b == 32))

abbrev ArePlain : List ℕ → Type 0
ArePlain bytes = list_all is_plain bytes ≡ true

plain_lacks : (mark : ℕ) (bytes : List ℕ) → is_plain mark ≡ false → ArePlain bytes → lacks mark bytes ≡ true
plain_lacks mark bytes free plain =
    let other : (b : ℕ) → is_plain b ≡ true → not (eqb b mark) ≡ true =
    λ b is. not_from_false (eqb b mark) (ne_eqb b mark (λ e. true≢false (sym is ∙ ap is_plain e ∙ free))) in
    list_all-from_AllPass (λ b. not (eqb b mark)) bytes
    (All-weaker (λ b. is_plain b ≡ true) (λ b. not (eqb b mark) ≡ true) other bytes
    (AllPass-from_list_all is_plain bytes plain))

plain-append : (xs ys : List ℕ) → ArePlain xs → ArePlain ys → ArePlain (xs ++ ys)
plain-append xs ys a b =
    list_all-append is_plain xs ys ∙ and_from (list_all is_plain xs) (list_all is_plain ys) a b

numeral_plain : (n : ℕ) → ArePlain (decimal n)
numeral_plain n =
    list_all-from_AllPass is_plain (decimal n)
    (All-weaker (λ b. is_ascii_digit b ≡ true) (λ b. is_plain b ≡ true)
    (λ b digit. or_left (is_ascii_digit b) (is_ascii_lowercase b || (b == 46 || b == 32)) digit) (decimal n)
    (AllPass-from_list_all is_ascii_digit (decimal n) (digits_are n)))

then_number : (before word : List ℕ) (n : ℕ) → ArePlain before → ArePlain word
    → ArePlain (before ++ word ++ decimal n)
then_number before word n a b =
    plain-append (before ++ word) (decimal n) (plain-append before word a b) (numeral_plain n)

identity_plain : (id : Id) → ArePlain (identity_text id)
identity_plain id =
    then_number (decimal (id.0 / 2 ^ 32)) (codes ".") (id.0 % 2 ^ 32) (numeral_plain (id.0 / 2 ^ 32)) refl

report_plain : (r : CollectionReport) → ArePlain (report_text r)
report_plain r =
    let kept = codes "kept " ++ decimal r.kept in
    let removed = kept ++ codes " removed " ++ decimal r.removed in
    let short = removed ++ codes " short " ++ decimal r.short in
    let long = short ++ codes " long " ++ decimal r.long in
    let dep = long ++ codes " dep " ++ decimal r.dep in
    then_number dep (codes " revived ") r.revived
    (then_number long (codes " dep ") r.dep
    (then_number short (codes " long ") r.long
    (then_number removed (codes " short ") r.short
    (then_number kept (codes " removed ") r.removed (numeral_plain r.kept) refl) refl) refl) refl) refl

refusal_plain : (refusal : Refusal) → ArePlain (refusal_text refusal)
refusal_plain Null = refl
refusal_plain BadField = refl
refusal_plain (HeapFull used size) =
    then_number (codes "heapfull " ++ decimal used) (codes " ") size (numeral_plain used) refl
refusal_plain (TableFull given) = numeral_plain given
refusal_plain NotLive = refl
refusal_plain WrongKind = refl
refusal_plain EmptyRegister = refl
refusal_plain CountZero = refl
refusal_plain Present = refl

reply_plain : (reply : Reply) → ArePlain (reply_text reply)
reply_plain Done = refl
reply_plain (Object id) = identity_plain id
reply_plain Nothing = refl
reply_plain (Value n) = numeral_plain n
reply_plain (Generation g) = numeral_plain g
reply_plain (Place p) = numeral_plain p
reply_plain (Report r) = report_plain r
reply_plain NoneQueued = refl
reply_plain Absent = refl
reply_plain (Chain from edges) =
    then_number (codes "root " ++ identity_text from) (codes " ") edges (identity_plain from) refl
reply_plain Unrooted = refl
reply_plain (Refused refusal) = refusal_plain refusal

-- ---- what comes after the reply

-- the numbers of a slot and of blocks are below 2^32
abbrev pub IsLowSlot : Option Slot → Type 0
IsLowSlot None = Unit {0}
IsLowSlot (Some slot) = slot.0 < 2 ^ 32

abbrev pub IsLowGrowth : Grown → Type 0
IsLowGrowth Zero = Unit {0}
IsLowGrowth (One block) = block < 2 ^ 32
IsLowGrowth (Two block other) = (block < 2 ^ 32) × (other < 2 ^ 32)
IsLowGrowth (Back block) = block < 2 ^ 32

slot_lacks : (mark : ℕ) (slot : Option Slot) → IsMark mark → lacks mark (codes " @") ≡ true
    → lacks mark (slot_text slot) ≡ true
slot_lacks mark None free m = refl
slot_lacks mark (Some slot) free m =
    lacks-append mark (codes " @") (decimal slot.0) m (numeral_lacks mark slot.0 free)

growth_lacks : (mark : ℕ) (grown : Grown) → IsMark mark → lacks mark (codes " +") ≡ true
    → lacks mark (codes ",") ≡ true → lacks mark (codes " -") ≡ true → lacks mark (growth_text grown) ≡ true
growth_lacks mark Zero free plus comma minus = refl
growth_lacks mark (One block) free plus comma minus =
    lacks-append mark (codes " +") (decimal block) plus (numeral_lacks mark block free)
growth_lacks mark (Two block other) free plus comma minus =
    let first = codes " +" ++ decimal block in
    lacks-append mark (first ++ codes ",") (decimal other)
    (lacks-append mark first (codes ",")
    (lacks-append mark (codes " +") (decimal block) plus (numeral_lacks mark block free)) comma)
    (numeral_lacks mark other free)
growth_lacks mark (Back block) free plus comma minus =
    lacks-append mark (codes " -") (decimal block) minus (numeral_lacks mark block free)

growth_ends : (grown : Grown) → ends (growth_text grown ++ newline) ≡ true
growth_ends Zero = refl
growth_ends (One block) = refl
growth_ends (Two block other) = refl
growth_ends (Back block) = refl

slot_ends : (slot : Option Slot) (grown : Grown)
    → ends (slot_text slot ++ (growth_text grown ++ newline)) ≡ true
slot_ends None grown = growth_ends grown
slot_ends (Some slot) grown = refl

-- the slot with whose number bytes begin
abbrev slot_from : List ℕ → Slot
slot_from rest = record { 0 = leading rest }

numeral_line : (mark n : ℕ) → IsMark mark → lacks mark newline ≡ true
    → lacks mark (decimal n ++ newline) ≡ true
numeral_line mark n free end = lacks-append mark (decimal n) newline (numeral_lacks mark n free) end

added_one : (block : ℕ) → block < 2 ^ 32 → added_in (decimal block ++ newline) ≡ One block
added_one block low =
    let rest = decimal block ++ newline in
    ap (λ (o : Option (List ℕ)). option_map_or (λ more. Two (leading rest) (leading more)) o
    (One (leading rest))) (after_none 44 rest (numeral_line 44 block refl refl))
    ∙ ap One (number_leads block newline low refl)

added_two : (block other : ℕ) → block < 2 ^ 32 → other < 2 ^ 32
    → added_in (decimal block ++ 44 ∷ (decimal other ++ newline)) ≡ Two block other
added_two block other low lower =
    let more = decimal other ++ newline in
    let rest = decimal block ++ 44 ∷ more in
    ap (λ (o : Option (List ℕ)). option_map_or (λ t. Two (leading rest) (leading t)) o (One (leading rest)))
    (after_at 44 (decimal block) more (numeral_lacks 44 block refl))
    ∙ (λ i. Two (number_leads block (44 ∷ more) low refl i) (number_leads other newline lower refl i))

-- what is read of a growth, by what is after its marks
grown_by : (line : List ℕ) (plus minus : Option (List ℕ)) → after_mark 43 line ≡ plus
    → after_mark 45 line ≡ minus
    → grown_in line
    ≡ option_map_or added_in plus (option_map_or (λ (rest : List ℕ). Back (leading rest)) minus Zero)
grown_by line plus minus p m = λ i. option_map_or added_in (p i)
    (option_map_or (λ (rest : List ℕ). Back (leading rest)) (m i) Zero)

grown_plus : (line rest : List ℕ) → after_mark 43 line ≡ Some rest → grown_in line ≡ added_in rest
grown_plus line rest p =
    ap (λ (o : Option (List ℕ)). option_map_or added_in o
    (option_map_or (λ (t : List ℕ). Back (leading t)) (after_mark 45 line) Zero)) p

-- after a head of plain bytes
module _ (head : List ℕ) (plain : ArePlain head) where
  head_lacks : (mark : ℕ) → is_plain mark ≡ false → lacks mark head ≡ true
  head_lacks mark free = plain_lacks mark head free plain

  slot_after : (slot : Option Slot) (grown : Grown) → IsLowSlot slot
      → slot_in (head ++ (slot_text slot ++ (growth_text grown ++ newline))) ≡ slot
  slot_after None grown low =
      ap (option_map slot_from) (after_none 64 (head ++ (growth_text grown ++ newline))
      (lacks-append 64 head (growth_text grown ++ newline) (head_lacks 64 refl)
      (lacks-append 64 (growth_text grown) newline (growth_lacks 64 grown refl refl refl refl) refl)))
  slot_after (Some slot) grown low =
      let rest = growth_text grown ++ newline in
      let number : ℕ → Option Slot = λ x. Some (record { 0 = x }) in
      ap slot_in (sym (append_assoc head (codes " ") (64 ∷ decimal slot.0 ++ rest)))
      ∙ ap (option_map slot_from) (after_at 64 (head ++ codes " ") (decimal slot.0 ++ rest)
      (lacks-append 64 head (codes " ") (head_lacks 64 refl) refl))
      ∙ ap number (number_leads slot.0 rest low (growth_ends grown))

  -- after the slot, a blank and a mark
  mark_after : (mark : ℕ) (slot : Option Slot) (rest : List ℕ) → IsMark mark → is_plain mark ≡ false
      → lacks mark (codes " @") ≡ true → lacks mark (codes " ") ≡ true
      → after_mark mark (head ++ (slot_text slot ++ 32 ∷ mark ∷ rest)) ≡ Some rest
  mark_after mark slot rest free other m blank =
      let text = slot_text slot in
      let before = text ++ codes " " in
      let lacking = lacks-append mark head before (head_lacks mark other)
      (lacks-append mark text (codes " ") (slot_lacks mark slot free m) blank) in
      ap (after_mark mark) (ap (λ (t : List ℕ). head ++ t) (sym (append_assoc text (codes " ") (mark ∷ rest)))
      ∙ sym (append_assoc head before (mark ∷ rest)))
      ∙ after_at mark (head ++ before) rest lacking

  -- no mark, where the growth has none
  none_after : (mark : ℕ) (slot : Option Slot) (rest : List ℕ) → IsMark mark → is_plain mark ≡ false
      → lacks mark (codes " @") ≡ true → lacks mark rest ≡ true
      → after_mark mark (head ++ (slot_text slot ++ rest)) ≡ None
  none_after mark slot rest free other m lacking =
      after_none mark (head ++ (slot_text slot ++ rest))
      (lacks-append mark head (slot_text slot ++ rest) (head_lacks mark other)
      (lacks-append mark (slot_text slot) rest (slot_lacks mark slot free m) lacking))

  grown_after : (slot : Option Slot) (grown : Grown) → IsLowGrowth grown
      → grown_in (head ++ (slot_text slot ++ (growth_text grown ++ newline))) ≡ grown
  grown_after slot Zero low =
      grown_by (head ++ (slot_text slot ++ newline)) None None
      (none_after 43 slot newline refl refl refl refl) (none_after 45 slot newline refl refl refl refl)
  grown_after slot (One block) low =
      let rest = decimal block ++ newline in
      grown_plus (head ++ (slot_text slot ++ 32 ∷ 43 ∷ rest)) rest
      (mark_after 43 slot rest refl refl refl refl) ∙ added_one block low
  grown_after slot (Two block other) low =
      let rest = decimal block ++ 44 ∷ (decimal other ++ newline) in
      let regroup : (decimal block ++ codes "," ++ decimal other) ++ newline ≡ rest = simp append_assoc in
      ap (λ (t : List ℕ). grown_in (head ++ (slot_text slot ++ 32 ∷ 43 ∷ t))) regroup
      ∙ grown_plus (head ++ (slot_text slot ++ 32 ∷ 43 ∷ rest)) rest
      (mark_after 43 slot rest refl refl refl refl) ∙ added_two block other low.0 low.1
  grown_after slot (Back block) low =
      let rest = decimal block ++ newline in
      grown_by (head ++ (slot_text slot ++ 32 ∷ 45 ∷ rest)) None (Some rest)
      (none_after 43 slot (32 ∷ 45 ∷ rest) refl refl refl (numeral_line 43 block refl refl))
      (mark_after 45 slot rest refl refl refl refl)
      ∙ ap Back (number_leads block newline low refl)

-- ---- the line

-- what comes before the slot, and what comes after the reply
abbrev head_of : Entry → ℕ → List ℕ
head_of e number = decimal e.caller ++ codes " " ++ decimal number ++ codes " " ++ reply_text e.reply

abbrev pub tail_of : Entry → List ℕ
tail_of e = slot_text e.slot ++ (growth_text e.grown ++ newline)

head_plain : (e : Entry) (number : ℕ) → ArePlain (head_of e number)
head_plain e number =
    let numbers = decimal e.caller ++ codes " " ++ decimal number in
    plain-append (numbers ++ codes " ") (reply_text e.reply)
    (plain-append numbers (codes " ")
    (then_number (decimal e.caller) (codes " ") number (numeral_plain e.caller) refl) refl)
    (reply_plain e.reply)

-- a full line has no line end before its own
pub line_lacks : (e : Entry) (number : ℕ)
    → lacks 10 (head_of e number ++ slot_text e.slot ++ growth_text e.grown) ≡ true
line_lacks e number =
    let head = head_of e number in
    lacks-append 10 (head ++ slot_text e.slot) (growth_text e.grown)
    (lacks-append 10 head (slot_text e.slot) (plain_lacks 10 head refl (head_plain e number))
    (slot_lacks 10 e.slot refl refl)) (growth_lacks 10 e.grown refl refl refl refl)

line_is : (e : Entry) (number : ℕ) → full_line e number ≡ head_of e number ++ tail_of e
line_is e number =
    append_assoc (head_of e number ++ slot_text e.slot) (growth_text e.grown) newline
    ∙ append_assoc (head_of e number) (slot_text e.slot) (growth_text e.grown ++ newline)

-- by its words
pub words_are : (e : Entry) (number : ℕ) → full_line e number
    ≡ decimal e.caller ++ 32 ∷ (decimal number ++ 32 ∷ (reply_text e.reply ++ tail_of e))
words_are e number = simp append_assoc

word_after : (n : ℕ) (rest : List ℕ) → after_blank (decimal n ++ 32 ∷ rest) ≡ rest
word_after n rest =
    ap (λ (o : Option (List ℕ)). unwrap_or o []) (after_at 32 (decimal n) rest (numeral_lacks 32 n refl))

-- the numbers of an entry that are read off its line are below 2^32
pub record IsLow (e : Entry) : Type 0 where
  pub caller : e.caller < 2 ^ 32
  pub slot : IsLowSlot e.slot
  pub grown : IsLowGrowth e.grown
  pub address : (p : ℕ) → e.reply ≡ Place p → p < 2 ^ 32

module _ (e : Entry) (number : ℕ) (low : IsLow e) where
  caller_stated : leading (full_line e number) ≡ e.caller
  caller_stated =
      ap leading (words_are e number)
      ∙ number_leads e.caller (32 ∷ (decimal number ++ 32 ∷ (reply_text e.reply ++ tail_of e)))
      low.caller refl

  slot_stated : slot_in (full_line e number) ≡ e.slot
  slot_stated = ap slot_in (line_is e number)
      ∙ slot_after (head_of e number) (head_plain e number) e.slot e.grown low.slot

  grown_stated : grown_in (full_line e number) ≡ e.grown
  grown_stated = ap grown_in (line_is e number)
      ∙ grown_after (head_of e number) (head_plain e number) e.slot e.grown low.grown

  addr_stated : (p : ℕ) → e.reply ≡ Place p → address_in (full_line e number) ≡ p
  addr_stated p is =
      let rest = reply_text e.reply ++ tail_of e in
      ap address_in (words_are e number)
      ∙ ap (λ (t : List ℕ). leading (after_blank (after_blank t)))
      (word_after e.caller (decimal number ++ 32 ∷ rest))
      ∙ ap (λ (t : List ℕ). leading (after_blank t)) (word_after number rest)
      ∙ ap (λ (r : Reply). leading (after_blank (reply_text r ++ tail_of e))) is
      ∙ number_leads p (tail_of e) (low.address p is) (slot_ends e.slot e.grown)

  -- what is read off the full line of an entry is that entry's
  pub line_has_choice : HasChoice e (choice_in (full_line e number))
  line_has_choice =
      record { caller = caller_stated; slot = slot_stated; grown = grown_stated; address = addr_stated }
