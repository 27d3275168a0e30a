-- What `show` writes of the finalization queue, the statics and the board.
use Rattle.std.specs.Prelude.{ℕ, List, [], ◌∷◌, ◌++◌, codes, decimal, flat_map, Option, Some, None}
use Rattle.std.specs.List.{enumerate_from}
use Rattle.hd_model.specs.declared.data.Id.{Id}
use Rattle.hd_model.specs.declared.data.Slot.{Slot}
use Rattle.hd_model.specs.Text.{identity_text, newline}
use Rattle.hd_show.specs.Columns.{row, table}

-- the finalization queue, the next object first
abbrev pub queue_row : ℕ × Id → List ℕ
queue_row e = row (decimal e.0) ((8, identity_text e.1) ∷ [])

abbrev pub queue_text : List Id → List ℕ
queue_text queue = table (codes "QUEUED  OBJECT") queue_row (enumerate_from 1 queue)

-- the statics that have an object, and the board indexes that have a slot, by their number
abbrev pub static_rows : ℕ × Option Id → List ℕ
static_rows (k, None) = []
static_rows (k, Some id) = row (decimal k) ((8, identity_text id) ∷ [])

abbrev pub statics_text : List (Option Id) → List ℕ
statics_text statics = table (codes "STATIC  OBJECT") static_rows (enumerate_from 0 statics)

abbrev pub board_rows : ℕ × Option Slot → List ℕ
board_rows (k, None) = []
board_rows (k, Some slot) = row (decimal k) ((8, decimal slot.0) ∷ [])

abbrev pub board_text : List (Option Slot) → List ℕ
board_text board = codes "BOARD   SLOT" ++ newline ++ flat_map board_rows (enumerate_from 0 board)
