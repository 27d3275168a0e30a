-- What is true of every script, whoever reads it.
use Rattle.std.specs.Prelude.{◌≡◌, ◌≢◌, ℕ, ◌+◌, ◌<◌, ◌≤◌, ◌==◌, Bool, true, false, if◌then◌else◌, List, [], ◌∷◌, ◌++◌, map, length, take, fold, filter, filter_map, flat_map, slice_index_or, All, count_by, Option, Some, None, Ok, Err, ◌⊎◌}
use Rattle.std.specs.List.{enumerate_from}
use Rattle.hd_model.specs.declared.command.Cmd.{Cmd}
use Rattle.hd_model.specs.Grammar.{Reading, lines_in, words_of, readings_of, blank, caller, command, caller_after, command_in, script_of}
use Rattle.hd_model.specs.declared.limits.TheConstants.{MOST_COMMANDS}

-- the bytes are lines that each end at a byte 10, and a last part without an end, which is a line if it has
-- a byte
pub record AreLinesOf (bytes : List ℕ) (found : List (List ℕ)) : Type 0 where
  pub ended : List (List ℕ)
  pub last : List ℕ
  pub whole : bytes ≡ flat_map (λ line. line ++ 10 ∷ []) ended ++ last
  pub no_end_within : All (λ line. All (λ b. b ≢ 10) line) ended
  pub no_end_in_last : All (λ b. b ≢ 10) last
  pub lines : found ≡ ended ++ (if length last == 0 then [] else last ∷ [])

-- the lines and their ends together are the bytes
abbrev pub LinesMakeTheBytes : Type 0
LinesMakeTheBytes = (bytes : List ℕ) → AreLinesOf bytes (lines_in bytes)

-- the caller of a line that follows others: that of the nearest `caller` line above, or caller 0
abbrev pub caller_after_lines : List (Option Reading) → ℕ
caller_after_lines above = fold caller_after 0 above

-- the command of a line, given as its index and its reading, if it is a command of this caller
abbrev pub command_for : List (Option Reading) → ℕ → ℕ × Option Reading → Option Cmd
command_for readings wanted line =
    if caller_after_lines (take line.0 readings) == wanted then command_in line.1 else None

-- each caller's list is the commands of its lines, in their order
abbrev pub ListsFollowTheLines : Type 0
ListsFollowTheLines = (bytes : List ℕ) (lists : List (List Cmd)) → script_of bytes ≡ Ok lists → (wanted : ℕ)
    → wanted < length lists →
    slice_index_or lists wanted []
    ≡ filter_map (command_for (readings_of bytes) wanted) (enumerate_from 0 (readings_of bytes))

-- whether a line has words
abbrev pub has_words : List (List ℕ) → Bool
has_words [] = false
has_words (word ∷ words) = true

-- the words of the lines that have words
abbrev pub words_of_lines : List ℕ → List (List (List ℕ))
words_of_lines bytes = filter has_words (map words_of (lines_in bytes))

-- two scripts whose lines have the same words, lines without words left out, have the same lists
abbrev pub WordsDecide : Type 0
WordsDecide = (one other : List ℕ) (lists : List (List Cmd)) → words_of_lines one ≡ words_of_lines other →
    script_of one ≡ Ok lists → script_of other ≡ Ok lists

-- whether a line is a command
abbrev pub is_command : Option Reading → Bool
is_command None = false
is_command (Some blank) = false
is_command (Some (caller n)) = false
is_command (Some (command c)) = true

-- a line, by its index from 0, is at fault: it has no reading, or it is a command and too many are above it
pub record IsAtFault (readings : List (Option Reading)) (index : ℕ) : Type 0 where
  pub within : index < length readings
  pub why : (slice_index_or readings index (Some blank) ≡ None)
      ⊎ ((is_command (slice_index_or readings index None) ≡ true)
      × (MOST_COMMANDS ≤ count_by is_command (take index readings)))

-- a line, by its number from 1, is the first that is at fault
pub record IsFirstAtFault (readings : List (Option Reading)) (line : ℕ) : Type 0 where
  pub index : ℕ
  pub number : line ≡ index + 1
  pub fault : IsAtFault readings index
  pub first : (other : ℕ) → other < index → IsAtFault readings other → ⊥

-- a script is refused for its first line at fault, and no script has one
pub record FaultsComeFirst : Type 0 where
  pub refused : (bytes : List ℕ) (line : ℕ) → script_of bytes ≡ Err line
      → IsFirstAtFault (readings_of bytes) line
  pub accepted : (bytes : List ℕ) (lists : List (List Cmd)) → script_of bytes ≡ Ok lists → (index : ℕ)
      → IsAtFault (readings_of bytes) index → ⊥
