-- The words of a full line.
use Rattle.hd_print.proofs.Basics.{Entry, List, Option, Some, None, [], and_from, ap, append-nil, append_assoc, arith, codes, decimal, join_with_byte, length, length-append, list_all, ltb, map, refl, subst, sym, true, words_of, ℕ, ◌&&◌, ◌++◌, ◌/◌, ◌%◌, ◌^◌, ◌∙◌, ◌∷◌, ◌≡◌}
use Rattle.std.proofs.lemmas.List.Folds.{list_all-append}
use Rattle.hd_model.specs.declared.data.Id.{Id}
use Rattle.hd_model.specs.declared.data.Slot.{Slot}
use Rattle.hd_model.specs.declared.data.Grown.{Grown}
use Rattle.hd_model.specs.declared.data.Refusal.{Refusal}
use Rattle.hd_model.specs.declared.data.Reply.{Reply}
use Rattle.hd_model.specs.declared.data.Report.{Report as CollectionReport}
use Rattle.hd_model.specs.Grammar.{lines_in}
use Rattle.hd_model.specs.declared.data.Grown.TheVariants.{Zero, One, Two, Back}
use Rattle.hd_model.specs.declared.data.Refusal.TheVariants.{Null, BadField, HeapFull, TableFull, NotLive, WrongKind, EmptyRegister, CountZero, Present}
use Rattle.hd_model.specs.declared.data.Reply.TheVariants.{Done, Object, Nothing, Value, Generation, Place, Report, NoneQueued, Absent, Chain, Unrooted, Refused}
use Rattle.hd_model.specs.Text.{identity_text, refusal_text, reply_text}
use Rattle.hd_model.specs.FullText.{slot_text, growth_text, full_line}
use Rattle.hd_print.specs.EntryLines.{IsSmall, IsSmallId, IsSmallRefusal, IsSmallReply, IsSmallSlot, IsSmallGrowth, HasSmall}
use Rattle.hd_print.proofs.CommandReadBack.{literal, numeral, marked}
use Rattle.hd_print.proofs.LineWords.{is_high, IsWord, AreWords, words_again, line_again}

-- ---- the words

abbrev refusal_words : Refusal → List (List ℕ)
refusal_words Null = codes "nullref" ∷ []
refusal_words BadField = codes "badfield" ∷ []
refusal_words (HeapFull used size) = codes "heapfull" ∷ decimal used ∷ decimal size ∷ []
refusal_words (TableFull given) = codes "tablefull" ∷ decimal given ∷ []
refusal_words NotLive = codes "notlive" ∷ []
refusal_words WrongKind = codes "wrongkind" ∷ []
refusal_words EmptyRegister = codes "empty" ∷ []
refusal_words CountZero = codes "countzero" ∷ []
refusal_words Present = codes "present" ∷ []

abbrev pub reply_words : Reply → List (List ℕ)
reply_words Done = codes "ok" ∷ []
reply_words (Object id) = codes "obj" ∷ identity_text id ∷ []
reply_words Nothing = codes "null" ∷ []
reply_words (Value n) = codes "value" ∷ decimal n ∷ []
reply_words (Generation g) = codes "gen" ∷ decimal g ∷ []
reply_words (Place p) = codes "addr" ∷ decimal p ∷ []
reply_words (Report r) =
    codes "kept" ∷ decimal r.kept ∷ codes "removed" ∷ decimal r.removed ∷ codes "short" ∷ decimal r.short
    ∷ codes "long" ∷ decimal r.long ∷ codes "dep" ∷ decimal r.dep ∷ codes "revived" ∷ decimal r.revived ∷ []
reply_words NoneQueued = codes "none" ∷ []
reply_words Absent = codes "absent" ∷ []
reply_words (Chain from edges) = codes "root" ∷ identity_text from ∷ decimal edges ∷ []
reply_words Unrooted = codes "unrooted" ∷ []
reply_words (Refused refusal) = refusal_words refusal

abbrev pub slot_words : Option Slot → List (List ℕ)
slot_words None = []
slot_words (Some slot) = (64 ∷ decimal slot.0) ∷ []

abbrev pub growth_words : Grown → List (List ℕ)
growth_words Zero = []
growth_words (One block) = (43 ∷ decimal block) ∷ []
growth_words (Two block other) = (43 ∷ decimal block ++ 44 ∷ decimal other) ∷ []
growth_words (Back block) = (45 ∷ decimal block) ∷ []

-- those after the caller and the number
abbrev pub words_after : Entry → List (List ℕ)
words_after e = reply_words e.reply ++ (slot_words e.slot ++ growth_words e.grown)

abbrev pub full_words : Entry → ℕ → List (List ℕ)
full_words e number = decimal e.caller ∷ decimal number ∷ words_after e

-- ---- each of them has a byte, and none that is not of a word

pub identity_joined : (id : Id)
    → identity_text id ≡ decimal (id.0 / 2 ^ 32) ++ 46 ∷ decimal (id.0 % 2 ^ 32)
identity_joined id = append_assoc (decimal (id.0 / 2 ^ 32)) (codes ".") (decimal (id.0 % 2 ^ 32))

identity_is : (id : Id) → IsSmallId id → IsWord (identity_text id)
identity_is id small =
    let left = decimal (id.0 / 2 ^ 32) in
    let right : List ℕ = 46 ∷ decimal (id.0 % 2 ^ 32) in
    let caller = numeral (id.0 / 2 ^ 32) small in
    let serial = marked 46 (id.0 % 2 ^ 32) refl (omega arith) in
    let joined : IsWord (left ++ right) = record {
      some = omega (arith, caller.some, length-append left right);
      high = list_all-append is_high left right
          ∙ and_from (list_all is_high left) (list_all is_high right) caller.high serial.high;
    } in
    subst IsWord (sym (identity_joined id)) joined

one_word : (text : List ℕ) → (ltb 0 (length text) && list_all is_high text) ≡ true → AreWords (text ∷ [])
one_word text is = (literal text is, tt)

refusal_are : (refusal : Refusal) → IsSmallRefusal refusal → AreWords (refusal_words refusal)
refusal_are Null small = one_word (codes "nullref") refl
refusal_are BadField small = one_word (codes "badfield") refl
refusal_are (HeapFull used size) small =
    (literal (codes "heapfull") refl, (numeral used small.0, (numeral size small.1, tt)))
refusal_are (TableFull given) small = (literal (codes "tablefull") refl, (numeral given small, tt))
refusal_are NotLive small = one_word (codes "notlive") refl
refusal_are WrongKind small = one_word (codes "wrongkind") refl
refusal_are EmptyRegister small = one_word (codes "empty") refl
refusal_are CountZero small = one_word (codes "countzero") refl
refusal_are Present small = one_word (codes "present") refl

-- a word and its number, before others
labelled : {Others : Type 0} (text : List ℕ) → (ltb 0 (length text) && list_all is_high text) ≡ true → (n : ℕ)
    → IsSmall n → Others → IsWord text × (IsWord (decimal n) × Others)
labelled text is n small others = (literal text is, (numeral n small, others))

report_are : (r : CollectionReport) → IsSmallReply (Report r) → AreWords (reply_words (Report r))
report_are r small =
    labelled (codes "kept") refl r.kept small.0 (labelled (codes "removed") refl r.removed small.1
    (labelled (codes "short") refl r.short small.2 (labelled (codes "long") refl r.long small.3
    (labelled (codes "dep") refl r.dep small.4 (labelled (codes "revived") refl r.revived small.5 tt)))))

reply_are : (reply : Reply) → IsSmallReply reply → AreWords (reply_words reply)
reply_are Done small = one_word (codes "ok") refl
reply_are (Object id) small = (literal (codes "obj") refl, (identity_is id small, tt))
reply_are Nothing small = one_word (codes "null") refl
reply_are (Value n) small = (literal (codes "value") refl, (numeral n small, tt))
reply_are (Generation g) small = (literal (codes "gen") refl, (numeral g small, tt))
reply_are (Place p) small = (literal (codes "addr") refl, (numeral p small, tt))
reply_are (Report r) small = report_are r small
reply_are NoneQueued small = one_word (codes "none") refl
reply_are Absent small = one_word (codes "absent") refl
reply_are (Chain from edges) small =
    (literal (codes "root") refl, (identity_is from small.0, (numeral edges small.1, tt)))
reply_are Unrooted small = one_word (codes "unrooted") refl
reply_are (Refused refusal) small = refusal_are refusal small

slot_are : (slot : Option Slot) → IsSmallSlot slot → AreWords (slot_words slot)
slot_are None small = tt
slot_are (Some slot) small = (marked 64 slot.0 refl small, tt)

both_are : (block other : ℕ) → IsSmall block → IsSmall other
    → IsWord (43 ∷ decimal block ++ 44 ∷ decimal other)
both_are block other a b =
    let first = marked 43 block refl a in
    let second = marked 44 other refl b in record {
      some = omega arith;
      high = list_all-append is_high (43 ∷ decimal block) (44 ∷ decimal other)
          ∙ and_from (list_all is_high (43 ∷ decimal block)) (list_all is_high (44 ∷ decimal other))
          first.high second.high;
    }

growth_are : (grown : Grown) → IsSmallGrowth grown → AreWords (growth_words grown)
growth_are Zero small = tt
growth_are (One block) small = (marked 43 block refl small, tt)
growth_are (Two block other) small = (both_are block other small.0 small.1, tt)
growth_are (Back block) small = (marked 45 block refl small, tt)

are-append : (xs ys : List (List ℕ)) → AreWords xs → AreWords ys → AreWords (xs ++ ys)
are-append [] ys a b = b
are-append (x ∷ xs) ys a b = (a.0, are-append xs ys a.1 b)

after_are : (e : Entry) (number : ℕ) → HasSmall e number → AreWords (decimal number ∷ words_after e)
after_are e number small = (
  numeral number small.number,
  are-append (reply_words e.reply) (slot_words e.slot ++ growth_words e.grown)
      (reply_are e.reply small.reply) (are-append (slot_words e.slot) (growth_words e.grown)
      (slot_are e.slot small.slot) (growth_are e.grown small.grown)),
)

-- ---- the line has them

-- words, each with a blank before it
abbrev spaced : List (List ℕ) → List ℕ
spaced [] = []
spaced (word ∷ words) = 32 ∷ word ++ spaced words

join_is : (word : List ℕ) (words : List (List ℕ)) → join_with_byte 32 (word ∷ words) ≡ word ++ spaced words
join_is word [] = sym (append-nil word)
join_is word (next ∷ words) = ap (λ (t : List ℕ). word ++ 32 ∷ t) (join_is next words)

spaced-append : (xs ys : List (List ℕ)) → spaced (xs ++ ys) ≡ spaced xs ++ spaced ys
spaced-append [] ys = refl
spaced-append (x ∷ xs) ys = ap (λ (t : List ℕ). 32 ∷ x ++ t) (spaced-append xs ys)
    ∙ sym (append_assoc (32 ∷ x) (spaced xs) (spaced ys))

refusal_is : (refusal : Refusal) → 32 ∷ refusal_text refusal ≡ spaced (refusal_words refusal)
refusal_is Null = refl
refusal_is BadField = refl
refusal_is (HeapFull used size) = simp (append_assoc, append-nil)
refusal_is (TableFull given) = simp (append_assoc, append-nil)
refusal_is NotLive = refl
refusal_is WrongKind = refl
refusal_is EmptyRegister = refl
refusal_is CountZero = refl
refusal_is Present = refl

reply_is : (reply : Reply) → 32 ∷ reply_text reply ≡ spaced (reply_words reply)
reply_is Done = refl
reply_is (Object id) = simp (append_assoc, append-nil)
reply_is Nothing = refl
reply_is (Value n) = simp (append_assoc, append-nil)
reply_is (Generation g) = simp (append_assoc, append-nil)
reply_is (Place p) = simp (append_assoc, append-nil)
reply_is (Report r) = simp (append_assoc, append-nil)
reply_is NoneQueued = refl
reply_is Absent = refl
reply_is (Chain from edges) = simp (append_assoc, append-nil)
reply_is Unrooted = refl
reply_is (Refused refusal) = refusal_is refusal

slot_is : (slot : Option Slot) → slot_text slot ≡ spaced (slot_words slot)
slot_is None = refl
slot_is (Some slot) = simp (append_assoc, append-nil)

growth_is : (grown : Grown) → growth_text grown ≡ spaced (growth_words grown)
growth_is Zero = refl
growth_is (One block) = simp (append_assoc, append-nil)
growth_is (Two block other) = simp (append_assoc, append-nil)
growth_is (Back block) = simp (append_assoc, append-nil)

line_is : (e : Entry) (number : ℕ) → full_line e number ≡ join_with_byte 32 (full_words e number) ++ 10 ∷ []
line_is e number =
    let r = reply_words e.reply in
    let s = slot_words e.slot in
    let g = growth_words e.grown in
    let end : List ℕ = 10 ∷ [] in
    let head : List ℕ → List ℕ = λ t. decimal e.caller ++ (32 ∷ decimal number ++ t) in
    let open_up : full_line e number
    ≡ head ((32 ∷ reply_text e.reply) ++ (slot_text e.slot ++ (growth_text e.grown ++ end))) =
    simp append_assoc in
    let parts : spaced (r ++ (s ++ g)) ++ end ≡ spaced r ++ (spaced s ++ (spaced g ++ end)) =
    ap (λ (t : List ℕ). t ++ end)
    (spaced-append r (s ++ g) ∙ ap (λ (t : List ℕ). spaced r ++ t) (spaced-append s g))
    ∙ append_assoc (spaced r) (spaced s ++ spaced g) end
    ∙ ap (λ (t : List ℕ). spaced r ++ t) (append_assoc (spaced s) (spaced g) end) in
    open_up
    ∙ ap (λ (t : List ℕ). head (t ++ (slot_text e.slot ++ (growth_text e.grown ++ end)))) (reply_is e.reply)
    ∙ ap (λ (t : List ℕ). head (spaced r ++ (t ++ (growth_text e.grown ++ end)))) (slot_is e.slot)
    ∙ ap (λ (t : List ℕ). head (spaced r ++ (spaced s ++ (t ++ end)))) (growth_is e.grown)
    ∙ ap head (sym parts)
    ∙ ap (λ (t : List ℕ). decimal e.caller ++ t)
    (sym (append_assoc (32 ∷ decimal number) (spaced (r ++ (s ++ g))) end))
    ∙ sym (append_assoc (decimal e.caller) (spaced (decimal number ∷ (r ++ (s ++ g)))) end)
    ∙ ap (λ (t : List ℕ). t ++ end) (sym (join_is (decimal e.caller) (decimal number ∷ (r ++ (s ++ g)))))

-- the words of the lines of bytes
abbrev pub words_of_lines : List ℕ → List (List (List ℕ))
words_of_lines bytes = map words_of (lines_in bytes)

-- a full line is one line of these words
pub full_line_words : (e : Entry) (number : ℕ) → HasSmall e number
    → words_of_lines (full_line e number) ≡ full_words e number ∷ []
full_line_words e number small =
    let caller = numeral e.caller small.caller in
    let after = after_are e number small in
    ap words_of_lines (line_is e number)
    ∙ ap (map words_of) (line_again (decimal e.caller) (decimal number ∷ words_after e) caller after)
    ∙ ap (λ (words : List (List ℕ)). words ∷ [])
    (words_again (decimal e.caller) (decimal number ∷ words_after e) caller after)
