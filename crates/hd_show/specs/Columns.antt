-- Words of tables: each begins at its column, and what is not there is a hyphen.
use Rattle.std.specs.Prelude.{ℕ, ◌-◌, List, [], ◌∷◌, ◌++◌, codes, length, replicate, flat_map, Option, Some, None}
use Rattle.hd_model.specs.declared.data.Id.{Id}
use Rattle.hd_model.specs.Text.{identity_text, newline}

-- a line with blanks up to a column
abbrev pub padded : ℕ → List ℕ → List ℕ
padded column line = line ++ replicate (column - length line) 32

-- words, each after blanks up to its column
abbrev pub cells_after : List ℕ → List (ℕ × List ℕ) → List ℕ
cells_after line [] = line
cells_after line (cell ∷ cells) = cells_after (padded cell.0 line ++ cell.1) cells

-- the row of a table: a word, others at their columns, and the end of the line
abbrev pub row : List ℕ → List (ℕ × List ℕ) → List ℕ
row first cells = cells_after first cells ++ newline

-- a table: its header, a row for each thing, and an empty line
abbrev pub table : {A : Type 0} → List ℕ → (A → List ℕ) → List A → List ℕ
table header make things = header ++ newline ++ flat_map make things ++ newline

-- an identity or a slot as a word
abbrev pub object_word : Option Id → List ℕ
object_word None = codes "-"
object_word (Some id) = identity_text id
