-- The words of a line, with the columns at which they begin.
use Rattle.std.specs.Prelude.{ℕ, ◌+◌, nat_lt, if◌then◌else◌, List, [], ◌∷◌, ◌++◌, length, map}
use Rattle.std.specs.List.{slice_split, before_first}
use Rattle.std.specs.Str.Lines.{strip_carriage_return}
use Rattle.hd_model.specs.Grammar.{is_blank, is_hash}

-- the parts between blanks that have a byte, each with its column, where the first part begins at a column
abbrev pub placed : ℕ → List (List ℕ) → List (ℕ × List ℕ)
placed column [] = []
placed column (part ∷ parts) =
    (if nat_lt 0 (length part) then (column, part) ∷ [] else []) ++ placed (column + length part + 1) parts

-- the words of bytes that begin at a column
unfoldable pub words_from : ℕ → List ℕ → List (ℕ × List ℕ)
words_from column bytes = placed column (slice_split is_blank bytes)

-- the words of a line. Columns count bytes, from 1.
unfoldable pub placed_words : List ℕ → List (ℕ × List ℕ)
placed_words line = words_from 1 (before_first is_hash (strip_carriage_return line))

-- the words without their columns
abbrev pub bytes_of : List (ℕ × List ℕ) → List (List ℕ)
bytes_of words = map (λ word. word.1) words
