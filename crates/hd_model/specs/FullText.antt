-- The full text of a journal. A line of it has, besides the reply, the slot and the blocks of its entry.
use Rattle.std.specs.Prelude.{ℕ, List, [], ◌∷◌, ◌++◌, codes, decimal, Option, Some, None}
use Rattle.std.specs.List.{concat}
use Rattle.std.specs.FinMap.{len}
use Rattle.hd_model.specs.Data.{Slot, Grown, Entry}
use Rattle.hd_model.specs.declared.data.Grown.TheVariants.{Zero, One, Two, Back}
use Rattle.hd_model.specs.State.{State}
use Rattle.hd_model.specs.Text.{reply_text, newline, numbered_after, end_text, collections_of}

-- the slot that an entry gives or frees, as ` @64`
abbrev pub slot_text : Option Slot → List ℕ
slot_text None = []
slot_text (Some slot) = codes " @" ++ decimal slot.0

-- the blocks by which the table grew, as ` +1` or ` +1,2`, or the one that it gave back, as ` -1`
abbrev pub growth_text : Grown → List ℕ
growth_text Zero = []
growth_text (One block) = codes " +" ++ decimal block
growth_text (Two block other) = codes " +" ++ decimal block ++ codes "," ++ decimal other
growth_text (Back block) = codes " -" ++ decimal block

-- the full line of an entry: its caller, its number among that caller's entries, its reply, slot and blocks
abbrev pub full_line : Entry → ℕ → List ℕ
full_line e number =
    decimal e.caller ++ codes " " ++ decimal number ++ codes " " ++ reply_text e.reply ++ slot_text e.slot
    ++ growth_text e.grown ++ newline

-- the full lines of a journal
abbrev pub full_lines : List Entry → List (List ℕ)
full_lines journal = numbered_after full_line [] journal

-- the last line of a journal that replays to a state
abbrev pub end_of : List Entry → State → List ℕ
end_of journal s = end_text (len s.handles) (len s.objects) (collections_of journal)

-- the full text of a journal that replays to a state: its full lines and its last line
abbrev pub full_text_of : List Entry → State → List ℕ
full_text_of journal s = concat (full_lines journal) ++ end_of journal s
