-- What is said of a slot. It is this project's own format.
use Rattle.std.specs.Prelude.{ℕ, ◌==◌, Bool, false, if◌then◌else◌, List, [], ◌++◌, codes, decimal, flat_map, Option, Some, None}
use Rattle.std.specs.List.{enumerate_from, find}
use Rattle.hd_model.specs.declared.data.Id.{Id}
use Rattle.hd_model.specs.declared.data.Reply.TheVariants as reply
use Rattle.hd_model.specs.declared.data.Slot.{Slot}
use Rattle.hd_model.specs.CommandText.{handle_word, kind_name, strength_word}
use Rattle.hd_model.specs.Text.{reply_text}
use Rattle.hd_seen.specs.Seen.{Picture}
use Rattle.hd_seen.specs.declared.SeenEntry.{SeenEntry}
use Rattle.hd_seen.specs.declared.SeenExtra.{SeenExtra}
use Rattle.hd_seen.specs.declared.SeenExtra.TheVariants as seen
use Rattle.hd_seen.specs.declared.SeenHandle.{SeenHandle}

-- an object as a reply shows it
abbrev pub object_word : Option Id → List ℕ
object_word None = reply_text reply.Nothing
object_word (Some id) = reply_text (reply.Object id)

-- what a handle has beside its target
abbrev pub extra_words : SeenExtra → List ℕ
extra_words seen.Nothing = []
extra_words (seen.Strength s) = codes " strength " ++ strength_word s
extra_words (seen.Secondary id) = codes " secondary " ++ object_word id
extra_words (seen.Count count) = codes " count " ++ decimal count

abbrev pub age_words : ℕ → List ℕ
age_words age = codes " age " ++ decimal age ++ codes "\n"

-- a handle, and an entry of the weak table, behind the number of their slot
abbrev pub handle_line : SeenHandle → List ℕ
handle_line h =
    codes " kind " ++ kind_name h.kind ++ codes " target " ++ object_word h.target ++ extra_words h.extra
    ++ age_words h.age

abbrev pub entry_line : SeenEntry → List ℕ
entry_line e =
    codes " entry key " ++ object_word e.key ++ codes " value " ++ object_word e.value ++ age_words e.age

abbrev pub slot_words : ℕ → List ℕ
slot_words slot = codes "slot " ++ decimal slot

-- what is in a slot that has no handle
abbrev pub line_without_handle : Option SeenEntry → List ℕ
line_without_handle None = codes " not live\n"
line_without_handle (Some e) = entry_line e

-- what is in a slot, by the handle and by the entry that are there
abbrev pub line_of : Option SeenHandle → Option SeenEntry → List ℕ
line_of None entry = line_without_handle entry
line_of (Some h) entry = handle_line h

abbrev pub content_text : List SeenHandle → List SeenEntry → ℕ → List ℕ
content_text handles entries slot =
    slot_words slot
    ++ line_of (find (λ (h : SeenHandle). h.slot.0 == slot) handles)
    (find (λ (e : SeenEntry). e.slot.0 == slot) entries)

-- whether a register or board index has a slot
abbrev pub has_slot : ℕ → Option Slot → Bool
has_slot slot None = false
has_slot slot (Some s) = s.0 == slot

-- the line of a caller's handle register, and of a board index, where it has the slot
abbrev pub register_line : ℕ → ℕ → ℕ × Option Slot → List ℕ
register_line slot caller e =
    if has_slot slot e.1
    then codes "  caller " ++ decimal caller ++ codes " " ++ handle_word e.0 ++ codes "\n" else []

abbrev pub caller_lines : ℕ → ℕ × List (Option Slot) → List ℕ
caller_lines slot e = flat_map (register_line slot e.0) (enumerate_from 0 e.1)

abbrev pub board_line : ℕ → ℕ × Option Slot → List ℕ
board_line slot e =
    if has_slot slot e.1 then codes "  board " ++ decimal e.0 ++ codes "\n" else []

-- who has a slot: the handle registers, by caller, and the board indexes
abbrev pub holders_text : List (List (Option Slot)) → List (Option Slot) → ℕ → List ℕ
holders_text registers board slot =
    flat_map (caller_lines slot) (enumerate_from 0 registers)
    ++ flat_map (board_line slot) (enumerate_from 0 board)

-- what is in a slot, and who has it
abbrev pub slot_text : Picture → ℕ → List ℕ
slot_text p slot = content_text p.handles p.entries slot ++ holders_text p.handle_registers p.board slot
