-- What is true of every line.
use Rattle.std.specs.Prelude.{◌≡◌, ℕ, List, is_none, is_some}
use Rattle.hd_model.specs.Grammar.{reading_of, words_of}
use Rattle.hd_faults.specs.Causes.{cause_of}
use Rattle.hd_faults.specs.Placed.{bytes_of, placed_words}

-- words have no cause exactly where they have a reading
abbrev pub CausesDecideReadings : Type 0
CausesDecideReadings = (words : List (List ℕ)) → is_none (cause_of words) ≡ is_some (reading_of words)

-- the words with columns are the words of the grammar
abbrev pub WordsHaveColumns : Type 0
WordsHaveColumns = (line : List ℕ) → bytes_of (placed_words line) ≡ words_of line
