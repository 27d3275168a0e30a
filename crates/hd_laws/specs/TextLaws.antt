-- Laws of texts: worked journals whose text is written out, the numbers of lines, and what the end of a full
-- line says.
use Rattle.std.specs.Prelude.{◌≡◌, ◌≢◌, ℕ, ◌+◌, ◌<◌, ◌^◌, false, List, [], ◌∷◌, ◌++◌, map, length, slice_get, codes, All, Option, Some, None}
use Rattle.std.specs.FinMap.{len}
use Rattle.hd_model.specs.{declared.data.Slot.Slot, declared.data.Grown.Grown, declared.data.Report.Report, declared.data.Reply.Reply, declared.data.Entry.Entry, declared.command.Cmd.Cmd}
use Rattle.hd_model.specs.declared.data.Grown.TheVariants.{Zero, One, Two, Back}
use Rattle.hd_model.specs.declared.data.Kind.TheVariants as kind
use Rattle.hd_model.specs.declared.data.Make.TheVariants as make
use Rattle.hd_model.specs.declared.data.Refusal.TheVariants as refusal
use Rattle.hd_model.specs.declared.data.Reply.TheVariants as reply
use Rattle.hd_model.specs.declared.command.Cmd.TheVariants as cmd
use Rattle.hd_model.specs.State.{Numbers, State}
use Rattle.hd_model.specs.Kinds.{all_kinds}
use Rattle.hd_model.specs.CommandText.{kind_name}
use Rattle.hd_model.specs.Text.{reply_text, numbered_after, text_of}
use Rattle.hd_model.specs.FullText.{slot_text, growth_text, full_text_of}
use Rattle.hd_model.specs.Generated.{load_text}
use Rattle.hd_model.specs.RunTexts.{IsNoRun}
use Rattle.hd_laws.specs.CollectionSamples.{id_of, slot_of}

-- ---- worked texts

-- a line with its end
abbrev pub line : List ℕ → List ℕ
line text = text ++ 10 ∷ []

abbrev pub entry : ℕ → Cmd → Option Slot → Grown → Reply → Entry
entry caller c slot grown reply =
    record { caller = caller; cmd = c; slot = slot; grown = grown; reply = reply }

abbrev pub report : ℕ → ℕ → ℕ → ℕ → ℕ → ℕ → Report
report kept removed short long dep revived = record {
  kept = kept;
  removed = removed;
  short = short;
  long = long;
  dep = dep;
  revived = revived;
}

-- eleven entries of three callers: the table grows by one block and twice by two, a slot is freed, a block is
-- given back, an idle slot is given, and two collections are done
abbrev pub eleven : List Entry
eleven =
    entry 0 (cmd.HNew 0 make.Strong 0) (Some (slot_of 64)) (One 1) reply.Done
    ∷ entry 2 (cmd.HNew 0 (make.Dependent 1) 0) (Some (slot_of 128)) (Two 2 3) reply.Done
    ∷ entry 1 (cmd.New 0 3 false) None Zero (reply.Refused (refusal.HeapFull 999999 6))
    ∷ entry 0 (cmd.Collect 1) None Zero (reply.Report (report 12 3 0 1 2 10))
    ∷ entry 1 (cmd.HFree 3) (Some (slot_of 70)) Zero reply.Done
    ∷ entry 2 (cmd.Trim kind.Strong) None (Back 1) (reply.Value 1)
    ∷ entry 0 (cmd.Get 1 0 0) None Zero (reply.Object (id_of 8589934599))
    ∷ entry 1 (cmd.CAdd 0 1) (Some (slot_of 129)) Zero reply.Done
    ∷ entry 2 (cmd.HNew 1 make.Counted 0) (Some (slot_of 640)) (Two 10 12) reply.Done
    ∷ entry 0 (cmd.GcRoot 1) None Zero (reply.Chain (id_of 4294967301) 3)
    ∷ entry 1 (cmd.Collect 0) None Zero (reply.Report (report 0 0 0 0 0 0))
    ∷ []

-- their lines
abbrev pub plain_eleven : List ℕ
plain_eleven =
    line (codes "0 1 ok")
    ++ line (codes "2 1 ok")
    ++ line (codes "1 1 heapfull 999999 6")
    ++ line (codes "0 2 kept 12 removed 3 short 0 long 1 dep 2 revived 10")
    ++ line (codes "1 2 ok")
    ++ line (codes "2 2 value 1")
    ++ line (codes "0 3 obj 2.7")
    ++ line (codes "1 3 ok")
    ++ line (codes "2 3 ok")
    ++ line (codes "0 4 root 1.5 3")
    ++ line (codes "1 4 kept 0 removed 0 short 0 long 0 dep 0 revived 0")
    ++ line (codes "end handles 3 objects 4 collections 2")

abbrev pub full_eleven : List ℕ
full_eleven =
    line (codes "0 1 ok @64 +1")
    ++ line (codes "2 1 ok @128 +2,3")
    ++ line (codes "1 1 heapfull 999999 6")
    ++ line (codes "0 2 kept 12 removed 3 short 0 long 1 dep 2 revived 10")
    ++ line (codes "1 2 ok @70")
    ++ line (codes "2 2 value 1 -1")
    ++ line (codes "0 3 obj 2.7")
    ++ line (codes "1 3 ok @129")
    ++ line (codes "2 3 ok @640 +10,12")
    ++ line (codes "0 4 root 1.5 3")
    ++ line (codes "1 4 kept 0 removed 0 short 0 long 0 dep 0 revived 0")
    ++ line (codes "end handles 3 objects 4 collections 2")

-- each reply, and its text
abbrev pub all_replies : List Reply
all_replies =
    reply.Done ∷ reply.Object (id_of 8589934599) ∷ reply.Nothing ∷ reply.Value 18446744073709551615
    ∷ reply.Generation 2 ∷ reply.Place 16447 ∷ reply.Report (report 12 3 0 1 2 10) ∷ reply.NoneQueued
    ∷ reply.Absent ∷ reply.Chain (id_of 4294967301) 3 ∷ reply.Unrooted ∷ reply.Refused refusal.Null
    ∷ reply.Refused refusal.BadField ∷ reply.Refused (refusal.HeapFull 999999 6)
    ∷ reply.Refused (refusal.TableFull 256) ∷ reply.Refused refusal.NotLive
    ∷ reply.Refused refusal.WrongKind ∷ reply.Refused refusal.EmptyRegister
    ∷ reply.Refused refusal.CountZero ∷ reply.Refused refusal.Present ∷ []

abbrev pub all_reply_texts : List (List ℕ)
all_reply_texts =
    codes "ok" ∷ codes "obj 2.7" ∷ codes "null" ∷ codes "value 18446744073709551615" ∷ codes "gen 2"
    ∷ codes "addr 16447" ∷ codes "kept 12 removed 3 short 0 long 1 dep 2 revived 10" ∷ codes "none"
    ∷ codes "absent" ∷ codes "root 1.5 3" ∷ codes "unrooted" ∷ codes "nullref" ∷ codes "badfield"
    ∷ codes "heapfull 999999 6" ∷ codes "tablefull 256" ∷ codes "notlive" ∷ codes "wrongkind"
    ∷ codes "empty" ∷ codes "countzero" ∷ codes "present" ∷ []

-- the text of the eleven entries, plain and full, with three handles and four objects at the end, the text of
-- each reply, the name of each kind, and the line of a load, are these
pub record TextsAreThese : Type 0 where
  pub plain : (s : State) → len s.handles ≡ 3 → len s.objects ≡ 4 → text_of eleven s ≡ plain_eleven
  pub full : (s : State) → len s.handles ≡ 3 → len s.objects ≡ 4 → full_text_of eleven s ≡ full_eleven
  pub replies : map reply_text all_replies ≡ all_reply_texts
  pub kinds : map kind_name all_kinds
      ≡ codes "short" ∷ codes "long" ∷ codes "strong" ∷ codes "pinned" ∷ codes "var" ∷ codes "ref"
      ∷ codes "dep" ∷ []
  pub load : load_text 32 4 0 1 10
      ≡ line (codes "load callers 4 commands 32 made 4 live 0 collections 1 sum 10")

-- ---- numbers of lines

-- no entry is of the caller
abbrev pub HasNoneOf : ℕ → List Entry → Type 0
HasNoneOf caller es = All (λ (e : Entry). e.caller ≢ caller) es

-- the lines at two places are those of two entries, and the second has the next number
pub record AreNext (write : Entry → ℕ → List ℕ) (d e : Entry) (lines : List (List ℕ)) (i j : ℕ) : Type 0 where
  pub number : ℕ
  pub first_is : slice_get lines i ≡ Some (write d number)
  pub second_is : slice_get lines j ≡ Some (write e (number + 1))

-- however a line is written of an entry and its number: there is one for each entry; a caller's first has the
-- number 1; and of two lines of one caller with none of that caller between, the second has the next number
pub record LinesAreNumbered (write : Entry → ℕ → List ℕ) : Type 0 where
  pub one_each : (journal : List Entry) → length (numbered_after write [] journal) ≡ length journal
  pub first_is_one : (before : List Entry) (e : Entry) (after : List Entry) → HasNoneOf e.caller before
      → slice_get (numbered_after write [] (before ++ (e ∷ after))) (length before) ≡ Some (write e 1)
  pub next_is_one_more : (before : List Entry) (d : Entry) (between : List Entry) (e : Entry)
      (after : List Entry) → d.caller ≡ e.caller → HasNoneOf e.caller between
      → AreNext write d e (numbered_after write [] (before ++ (d ∷ (between ++ (e ∷ after)))))
      (length before) (length (before ++ (d ∷ between)))

abbrev pub CallersCountTheirLines : Type 0
CallersCountTheirLines = (write : Entry → ℕ → List ℕ) → LinesAreNumbered write

-- the lines of a text that is judged are numbered from 1: an empty text lacks line 1
abbrev pub EmptyTextsLackLineOne : Type 0
EmptyTextsLackLineOne = (n : Numbers) (lists : List (List Cmd)) → IsNoRun n lists [] 1

-- ---- the end of a full line

-- a number of at most 64 bits, as each number of a program is
abbrev pub IsShort : ℕ → Type 0
IsShort n = n < 2 ^ 64

abbrev pub IsShortSlot : Option Slot → Type 0
IsShortSlot None = Unit {0}
IsShortSlot (Some slot) = IsShort slot.0

abbrev pub IsShortGrowth : Grown → Type 0
IsShortGrowth Zero = Unit {0}
IsShortGrowth (One block) = IsShort block
IsShortGrowth (Two block other) = IsShort block × IsShort other
IsShortGrowth (Back block) = IsShort block

-- the end of a full line gives the slot and the blocks of its entry
abbrev pub TextsGiveSlotsAndBlocks : Type 0
TextsGiveSlotsAndBlocks =
    (slot other : Option Slot) (grown growth : Grown) → IsShortSlot slot → IsShortSlot other
    → IsShortGrowth grown → IsShortGrowth growth
    → slot_text slot ++ growth_text grown ≡ slot_text other ++ growth_text growth
    → (slot ≡ other) × (grown ≡ growth)
