-- A full line determines its entry.
use Rattle.hd_print.proofs.Basics.{All, Entry, drop, List, Option, Some, None, [], ap, arith, codes, decimal, get_or, leb, leb-true, ne_eqb, refl, slice_split, sym, ℕ, ◌*◌, ◌++◌, ◌+◌, ◌/◌, ◌%◌, ◌<◌, ◌==◌, ◌^◌, ◌∙◌, ◌∷◌, ◌≡◌, ◌≤◌, false}
use Rattle.std.specs.Prelude.{unwrap_or, if◌then◌else◌}
use Rattle.std.proofs.{lemmas.Bool.eq-eqb, lemmas.List.append_cancel_left, lemmas.List.Splits.slice_split_at, lemmas.List.Splits.slice_split_none}
use Rattle.hd_model.specs.declared.data.Id.{Id}
use Rattle.hd_model.specs.declared.data.Slot.{Slot}
use Rattle.hd_model.specs.declared.data.Grown.{Grown}
use Rattle.hd_model.specs.declared.data.Refusal.{Refusal}
use Rattle.hd_model.specs.declared.data.Reply.{Reply}
use Rattle.hd_model.specs.Grammar.{look_up, value_of}
use Rattle.hd_model.specs.declared.data.Grown.TheVariants.{Zero, One, Two, Back}
use Rattle.hd_model.specs.declared.data.Refusal.TheVariants.{Null, BadField, HeapFull, TableFull, NotLive, WrongKind, EmptyRegister, CountZero, Present}
use Rattle.hd_model.specs.declared.data.Reply.TheVariants.{Done, Object, Nothing, Value, Generation, Place, Report, NoneQueued, Absent, Chain, Unrooted, Refused}
use Rattle.hd_model.specs.Text.{identity_text}
use Rattle.hd_model.specs.FullText.{full_line}
use Rattle.hd_print.specs.EntryLines.{IsSmall, IsSmallId, IsSmallRefusal, IsSmallReply, IsSmallSlot, IsSmallGrowth, HasSmall, FullLinesDetermineEntries}
use Rattle.hd_print.proofs.Numerals.{value_again, digit_bytes}
use Rattle.hd_print.proofs.LineWords.{all_fail}
use Rattle.hd_print.proofs.FullWords.{identity_joined, reply_words, slot_words, growth_words, words_after, full_words, words_of_lines, full_line_words}

-- ---- what words say

-- the numbers of a word that is cut at a byte
abbrev cut_at : ℕ → List ℕ → List (List ℕ)
cut_at byte word = slice_split (λ b. b == byte) word

abbrev word_in : ℕ → List (List ℕ) → List ℕ
word_in i words = get_or words i []

abbrev number_in : ℕ → List (List ℕ) → ℕ
number_in i words = value_of (word_in i words)

abbrev id_in : ℕ → List (List ℕ) → Id
id_in i words =
    let parts = cut_at 46 (word_in i words) in
    record { 0 = number_in 0 parts * 2 ^ 32 + number_in 1 parts }

abbrev reply_in : List (List ℕ) → Option Reply
reply_in words = look_up (word_in 0 words) (
    (codes "ok", Some Done)
    ∷ (codes "obj", Some (Object (id_in 1 words)))
    ∷ (codes "null", Some Nothing)
    ∷ (codes "value", Some (Value (number_in 1 words)))
    ∷ (codes "gen", Some (Generation (number_in 1 words)))
    ∷ (codes "addr", Some (Place (number_in 1 words)))
    ∷ (
      codes "kept",
      Some (Report (record {
        kept = number_in 1 words;
        removed = number_in 3 words;
        short = number_in 5 words;
        long = number_in 7 words;
        dep = number_in 9 words;
        revived = number_in 11 words;
      })),
    )
    ∷ (codes "none", Some NoneQueued)
    ∷ (codes "absent", Some Absent)
    ∷ (codes "root", Some (Chain (id_in 1 words) (number_in 2 words)))
    ∷ (codes "unrooted", Some Unrooted)
    ∷ (codes "nullref", Some (Refused Null))
    ∷ (codes "badfield", Some (Refused BadField))
    ∷ (codes "heapfull", Some (Refused (HeapFull (number_in 1 words) (number_in 2 words))))
    ∷ (codes "tablefull", Some (Refused (TableFull (number_in 1 words))))
    ∷ (codes "notlive", Some (Refused NotLive))
    ∷ (codes "wrongkind", Some (Refused WrongKind))
    ∷ (codes "empty", Some (Refused EmptyRegister))
    ∷ (codes "countzero", Some (Refused CountZero))
    ∷ (codes "present", Some (Refused Present))
    ∷ [])

abbrev grown_by : List (List ℕ) → Grown
grown_by [] = Zero
grown_by (block ∷ []) = One (value_of block)
grown_by (block ∷ other ∷ rest) = Two (value_of block) (value_of other)

-- the slot and the growth of the words after a reply
abbrev slot_in : List (List ℕ) → Option Slot
slot_in [] = None
slot_in ([] ∷ words) = None
slot_in ((b ∷ digits) ∷ words) = if b == 64 then Some (record { 0 = value_of digits }) else None

abbrev grown_in : List (List ℕ) → Grown
grown_in [] = Zero
grown_in ([] ∷ words) = Zero
grown_in ((b ∷ digits) ∷ words) =
    if b == 64 then grown_in words else if b == 43 then grown_by (cut_at 44 digits)
    else Back (value_of digits)

-- ---- they say what they were written for

no_mark : (byte n : ℕ) → byte < 48 → n < 2 ^ 64 → All (λ b. (b == byte) ≡ false) (decimal n)
no_mark byte n low small =
    all_fail (λ b. leb 48 b) (λ b. b == byte)
    (λ b high. let above : 48 ≤ b = leb-true 48 b high in ne_eqb b byte (λ e. omega arith))
    (decimal n) (digit_bytes 48 (omega arith) n small)

cut_two : (byte m n : ℕ) → byte < 48 → IsSmall m → IsSmall n
    → cut_at byte (decimal m ++ byte ∷ decimal n) ≡ decimal m ∷ decimal n ∷ []
cut_two byte m n low a b =
    slice_split_at (λ b. b == byte) (decimal m) byte (decimal n) (no_mark byte m low a)
    (eq-eqb byte byte refl)
    ∙ ap (λ (parts : List (List ℕ)). decimal m ∷ parts)
    (slice_split_none (λ b. b == byte) (decimal n) (no_mark byte n low b))

two_numbers : (m n : ℕ) → IsSmall m → IsSmall n → (f : ℕ → ℕ → ℕ)
    → f (value_of (decimal m)) (value_of (decimal n)) ≡ f m n
two_numbers m n a b f =
    ap (λ x. f x (value_of (decimal n))) (value_again m a) ∙ ap (λ y. f m y) (value_again n b)

id_again : (id : Id) (first : List ℕ) (rest : List (List ℕ)) → IsSmallId id
    → id_in 1 (first ∷ identity_text id ∷ rest) ≡ id
id_again id first rest small =
    let parts = ap (cut_at 46) (identity_joined id)
    ∙ cut_two 46 (id.0 / 2 ^ 32) (id.0 % 2 ^ 32) (omega arith) small (omega arith) in
    let number : ℕ → Id = λ x. record { 0 = x } in
    let whole : id.0 / 2 ^ 32 * 2 ^ 32 + id.0 % 2 ^ 32 ≡ id.0 = omega arith in
    ap (λ (ps : List (List ℕ)). number (number_in 0 ps * 2 ^ 32 + number_in 1 ps)) parts
    ∙ ap number (two_numbers (id.0 / 2 ^ 32) (id.0 % 2 ^ 32) small (omega arith) (λ c s. c * 2 ^ 32 + s))
    ∙ ap number whole

refusal_again : (refusal : Refusal) (rest : List (List ℕ)) → IsSmallRefusal refusal
    → reply_in (reply_words (Refused refusal) ++ rest) ≡ Some (Refused refusal)
refusal_again Null rest small = refl
refusal_again BadField rest small = refl
refusal_again (HeapFull used size) rest small =
    λ i. Some (Refused (HeapFull (value_again used small.0 i) (value_again size small.1 i)))
refusal_again (TableFull given) rest small = ap (λ n. Some (Refused (TableFull n))) (value_again given small)
refusal_again NotLive rest small = refl
refusal_again WrongKind rest small = refl
refusal_again EmptyRegister rest small = refl
refusal_again CountZero rest small = refl
refusal_again Present rest small = refl

reply_again : (reply : Reply) (rest : List (List ℕ)) → IsSmallReply reply
    → reply_in (reply_words reply ++ rest) ≡ Some reply
reply_again Done rest small = refl
reply_again (Object id) rest small = ap (λ x. Some (Object x)) (id_again id (codes "obj") rest small)
reply_again Nothing rest small = refl
reply_again (Value n) rest small = ap (λ x. Some (Value x)) (value_again n small)
reply_again (Generation g) rest small = ap (λ x. Some (Generation x)) (value_again g small)
reply_again (Place p) rest small = ap (λ x. Some (Place x)) (value_again p small)
reply_again (Report r) rest small =
    λ i. Some (Report (record {
      kept = value_again r.kept small.0 i;
      removed = value_again r.removed small.1 i;
      short = value_again r.short small.2 i;
      long = value_again r.long small.3 i;
      dep = value_again r.dep small.4 i;
      revived = value_again r.revived small.5 i;
    }))
reply_again NoneQueued rest small = refl
reply_again Absent rest small = refl
reply_again (Chain from edges) rest small =
    ap (λ x. Some (Chain x (value_of (decimal edges))))
    (id_again from (codes "root") (decimal edges ∷ rest) small.0)
    ∙ ap (λ n. Some (Chain from n)) (value_again edges small.1)
reply_again Unrooted rest small = refl
reply_again (Refused refusal) rest small = refusal_again refusal rest small

slot_again : (slot : Option Slot) (grown : Grown) → IsSmallSlot slot
    → slot_in (slot_words slot ++ growth_words grown) ≡ slot
slot_again None Zero small = refl
slot_again None (One block) small = refl
slot_again None (Two block other) small = refl
slot_again None (Back block) small = refl
slot_again (Some slot) grown small =
    let some : ℕ → Option Slot = λ x. Some (record { 0 = x }) in ap some (value_again slot.0 small)

growth_again : (grown : Grown) → IsSmallGrowth grown → grown_in (growth_words grown) ≡ grown
growth_again Zero small = refl
growth_again (One block) small =
    ap grown_by (slice_split_none (λ b. b == 44) (decimal block) (no_mark 44 block (omega arith) small))
    ∙ ap One (value_again block small)
growth_again (Two block other) small =
    ap grown_by (cut_two 44 block other (omega arith) small.0 small.1)
    ∙ (λ i. Two (value_again block small.0 i) (value_again other small.1 i))
growth_again (Back block) small = ap Back (value_again block small)

grown_again : (slot : Option Slot) (grown : Grown) → IsSmallGrowth grown
    → grown_in (slot_words slot ++ growth_words grown) ≡ grown
grown_again None grown small = growth_again grown small
grown_again (Some slot) grown small = growth_again grown small

-- the words of a full line determine its entry
module _ (d e : Entry) (m n : ℕ) (sd : HasSmall d m) (se : HasSmall e n)
    (same : full_line d m ≡ full_line e n) where
  words : full_words d m ≡ full_words e n
  words = ap (λ (lines : List (List (List ℕ))). get_or lines 0 [])
      (sym (full_line_words d m sd) ∙ ap words_of_lines same ∙ full_line_words e n se)

  callers : d.caller ≡ e.caller
  callers = sym (value_again d.caller sd.caller) ∙ ap (number_in 0) words ∙ value_again e.caller se.caller

  numbers : m ≡ n
  numbers = sym (value_again m sd.number) ∙ ap (number_in 1) words ∙ value_again n se.number

  after : words_after d ≡ words_after e
  after = ap (drop 2) words

  replies : d.reply ≡ e.reply
  replies =
      ap (λ (o : Option Reply). unwrap_or o Done)
      (sym (reply_again d.reply (slot_words d.slot ++ growth_words d.grown) sd.reply) ∙ ap reply_in after
      ∙ reply_again e.reply (slot_words e.slot ++ growth_words e.grown) se.reply)

  rest : slot_words d.slot ++ growth_words d.grown ≡ slot_words e.slot ++ growth_words e.grown
  rest = append_cancel_left (reply_words e.reply) (slot_words d.slot ++ growth_words d.grown)
      (slot_words e.slot ++ growth_words e.grown)
      (ap (λ (r : Reply). reply_words r ++ (slot_words d.slot ++ growth_words d.grown)) (sym replies) ∙ after)

  slots : d.slot ≡ e.slot
  slots = sym (slot_again d.slot d.grown sd.slot) ∙ ap slot_in rest ∙ slot_again e.slot e.grown se.slot

  growths : d.grown ≡ e.grown
  growths = sym (grown_again d.slot d.grown sd.grown) ∙ ap grown_in rest
      ∙ grown_again e.slot e.grown se.grown

  pub determined : d.cmd ≡ e.cmd → (d ≡ e) × (m ≡ n)
  determined same_cmd = (
    λ i. record {
      caller = callers i;
      cmd = same_cmd i;
      slot = slots i;
      grown = growths i;
      reply = replies i;
    },
    numbers,
  )

pub full_lines_determine_entries : FullLinesDetermineEntries
full_lines_determine_entries d e m n sd se same_cmd same = determined d e m n sd se same same_cmd
