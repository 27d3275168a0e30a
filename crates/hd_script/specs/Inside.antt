-- What private clauses alone cite.
use Rattle.std.specs.Prelude.{ℕ, Bool, false, ◌||◌, List, [], ◌∷◌, ◌≡◌, Option, drop, max, length, sum_by, slice_index_or}
use Rattle.hd_model.specs.Grammar.{is_blank, is_hash, is_line_end, commands_by, look_up, AreLists}
use Rattle.hd_model.specs.declared.command.Cmd.{Cmd}

-- the lists are those of a script, and hold this many commands
pub record AreCounted (lists : List (List Cmd)) (count : ℕ) : Type 0 where
  pub right : AreLists lists
  pub total : count ≡ sum_by length lists

-- the lists after callers without commands were added until there are `callers`
pub record IsOpened (old new : List (List Cmd)) (callers : ℕ) : Type 0 where
  pub same : (wanted : ℕ) → slice_index_or new wanted [] ≡ slice_index_or old wanted []
  pub number : length new ≡ max (length old) callers

-- ---- the words of the first line of bytes, and where they begin and end

-- a byte before which a word ends
abbrev pub is_stop : ℕ → Bool
is_stop b = is_blank b || is_line_end b || is_hash b

-- whether the first byte is a line end
abbrev pub starts_end : List ℕ → Bool
starts_end [] = false
starts_end (b ∷ bs) = is_line_end b

-- words with one more before them, or no words where that one is empty
abbrev pub with_word : List ℕ → List (List ℕ) → List (List ℕ)
with_word [] words = []
with_word (b ∷ bs) words = (b ∷ bs) ∷ words

-- the command of a word and these operands, where its form is none of the first n that may have so many
abbrev pub said_from : ℕ → List ℕ → List (List ℕ) → Option Cmd
said_from n word operands = look_up word (drop n (commands_by operands))
