-- The line of an entry and the lines of a journal, plain or full; and what a full line determines.
use Rattle.std.specs.Prelude.{◌≡◌, ℕ, ◌<◌, ◌/◌, ◌^◌, Bool, true, false, List, [], Option, Some, None}
use Rattle.std.specs.List.{concat}
use Rattle.hd_model.specs.declared.data.Id.{Id}
use Rattle.hd_model.specs.declared.data.Slot.{Slot}
use Rattle.hd_model.specs.declared.data.Grown.{Grown}
use Rattle.hd_model.specs.declared.data.Refusal.{Refusal}
use Rattle.hd_model.specs.declared.data.Reply.{Reply}
use Rattle.hd_model.specs.declared.data.Entry.{Entry}
use Rattle.hd_model.specs.declared.data.Grown.TheVariants.{Zero, One, Two, Back}
use Rattle.hd_model.specs.declared.data.Refusal.TheVariants.{Null, BadField, HeapFull, TableFull, NotLive, WrongKind, EmptyRegister, CountZero, Present}
use Rattle.hd_model.specs.declared.data.Reply.TheVariants.{Done, Object, Nothing, Value, Generation, Place, Report, NoneQueued, Absent, Chain, Unrooted, Refused}
use Rattle.hd_model.specs.Text.{entry_text, numbered_after}
use Rattle.hd_model.specs.FullText.{full_line}
use Rattle.hd_print.specs.declared.entries.Form.{Form}
use Rattle.hd_print.specs.declared.entries.Form.TheVariants.{Plain, Full}

abbrev pub form_of : Bool → Form
form_of false = Plain
form_of true = Full

abbrev pub line_by : Form → Entry → ℕ → List ℕ
line_by Plain = entry_text
line_by Full = full_line

abbrev pub lines_by : Form → List Entry → List ℕ
lines_by form journal = concat (numbered_after (line_by form) [] journal)

-- a number of at most 64 bits
abbrev pub IsSmall : ℕ → Type 0
IsSmall n = n < 2 ^ 64

-- the numbers of an identity, a refusal, a reply, a slot and a growth are small
abbrev pub IsSmallId : Id → Type 0
IsSmallId id = IsSmall (id.0 / 2 ^ 32)

abbrev pub IsSmallRefusal : Refusal → Type 0
IsSmallRefusal Null = Unit {0}
IsSmallRefusal BadField = Unit {0}
IsSmallRefusal (HeapFull used size) = IsSmall used × IsSmall size
IsSmallRefusal (TableFull given) = IsSmall given
IsSmallRefusal NotLive = Unit {0}
IsSmallRefusal WrongKind = Unit {0}
IsSmallRefusal EmptyRegister = Unit {0}
IsSmallRefusal CountZero = Unit {0}
IsSmallRefusal Present = Unit {0}

abbrev pub IsSmallReply : Reply → Type 0
IsSmallReply Done = Unit {0}
IsSmallReply (Object id) = IsSmallId id
IsSmallReply Nothing = Unit {0}
IsSmallReply (Value n) = IsSmall n
IsSmallReply (Generation g) = IsSmall g
IsSmallReply (Place p) = IsSmall p
IsSmallReply (Report r) =
    IsSmall r.kept × IsSmall r.removed × IsSmall r.short × IsSmall r.long × IsSmall r.dep × IsSmall r.revived
IsSmallReply NoneQueued = Unit {0}
IsSmallReply Absent = Unit {0}
IsSmallReply (Chain from edges) = IsSmallId from × IsSmall edges
IsSmallReply Unrooted = Unit {0}
IsSmallReply (Refused refusal) = IsSmallRefusal refusal

abbrev pub IsSmallSlot : Option Slot → Type 0
IsSmallSlot None = Unit {0}
IsSmallSlot (Some slot) = IsSmall slot.0

abbrev pub IsSmallGrowth : Grown → Type 0
IsSmallGrowth Zero = Unit {0}
IsSmallGrowth (One block) = IsSmall block
IsSmallGrowth (Two block other) = IsSmall block × IsSmall other
IsSmallGrowth (Back block) = IsSmall block

-- all numbers that the line of an entry with this number has are small
pub record HasSmall (e : Entry) (index : ℕ) : Type 0 where
  pub caller : IsSmall e.caller
  pub number : IsSmall index
  pub reply : IsSmallReply e.reply
  pub slot : IsSmallSlot e.slot
  pub grown : IsSmallGrowth e.grown

-- for a given command the full line determines the entry and its number
abbrev pub FullLinesDetermineEntries : Type 0
FullLinesDetermineEntries =
    (d e : Entry) (m n : ℕ) → HasSmall d m → HasSmall e n → d.cmd ≡ e.cmd → full_line d m ≡ full_line e n
    → (d ≡ e) × (m ≡ n)
