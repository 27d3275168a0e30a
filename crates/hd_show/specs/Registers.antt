-- What `show` writes of registers: the object registers of each caller, and then the handle registers.
use Rattle.std.specs.Prelude.{ℕ, List, [], ◌∷◌, ◌++◌, codes, decimal, flat_map, Option, Some, None}
use Rattle.std.specs.List.{enumerate_from}
use Rattle.hd_model.specs.declared.data.Id.{Id}
use Rattle.hd_model.specs.declared.data.Slot.{Slot}
use Rattle.hd_model.specs.CommandText.{handle_word, object_word}
use Rattle.hd_model.specs.Text.{identity_text, newline}
use Rattle.hd_show.specs.Columns.{row}

-- the line of a register that has something: its caller, its name and what it has
abbrev pub register_row : ℕ → List ℕ → List ℕ → List ℕ
register_row caller name has = row (decimal caller) ((8, name) ∷ (18, has) ∷ [])

abbrev pub object_register : ℕ → ℕ × Option Id → List ℕ
object_register caller (d, None) = []
object_register caller (d, Some id) = register_row caller (object_word d) (identity_text id)

abbrev pub handle_register : ℕ → ℕ × Option Slot → List ℕ
handle_register caller (d, None) = []
handle_register caller (d, Some slot) = register_row caller (handle_word d) (decimal slot.0)

-- those of a caller
abbrev pub caller_objects : ℕ × List (Option Id) → List ℕ
caller_objects e = flat_map (object_register e.0) (enumerate_from 0 e.1)

abbrev pub caller_slots : ℕ × List (Option Slot) → List ℕ
caller_slots e = flat_map (handle_register e.0) (enumerate_from 0 e.1)

abbrev pub registers_text : List (List (Option Id)) → List (List (Option Slot)) → List ℕ
registers_text objects slots =
    codes "CALLER  REGISTER  HAS" ++ newline ++ flat_map caller_objects (enumerate_from 0 objects)
    ++ flat_map caller_slots (enumerate_from 0 slots) ++ newline
