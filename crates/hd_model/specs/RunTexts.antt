-- Which lines of a text are right: the full lines of a run in which each caller goes along its list of
-- commands, and then the end line.
use Rattle.std.specs.Prelude.{◌≡◌, ℕ, ◌+◌, ◌<◌, if◌then◌else◌, List, [], ◌∷◌, ◌++◌, length, take, slice_index_or}
use Rattle.hd_model.specs.Data.{Entry, Cmd}
use Rattle.hd_model.specs.Grammar.{is_line_end}
use Rattle.hd_model.specs.State.{Numbers, State}
use Rattle.hd_model.specs.Run.{Run, part_of, commands_of}
use Rattle.hd_model.specs.FullText.{full_lines, end_of, full_text_of}

-- the lines of bytes, each with its end: they are cut after each byte 10, and what follows the last one is a
-- line where it has a byte
abbrev pub onto_line : ℕ → List (List ℕ) → List (List ℕ)
onto_line b [] = (b ∷ []) ∷ []
onto_line b (line ∷ lines) = (b ∷ line) ∷ lines

abbrev pub cut_lines : List ℕ → List (List ℕ)
cut_lines [] = []
cut_lines (b ∷ bytes) =
    if is_line_end b then (b ∷ []) ∷ cut_lines bytes else onto_line b (cut_lines bytes)

-- the list of a caller, empty for one that has none
abbrev pub list_of : List (List Cmd) → ℕ → List Cmd
list_of lists caller = slice_index_or lists caller []

-- a journal is a run that replays to a state, and each caller has commands of its list left
pub record GoesAlong (n : Numbers) (lists : List (List Cmd)) (journal : List Entry) (s : State)
    (left : ℕ → List Cmd) : Type 0 where
  pub run : Run n journal s
  pub parts : (caller : ℕ) → list_of lists caller ≡ commands_of (part_of journal caller) ++ left caller

-- and no caller has commands left
abbrev pub IsWhole : Numbers → List (List Cmd) → List Entry → State → Type 0
IsWhole n lists journal s = GoesAlong n lists journal s (λ _. [])

-- lines that are right, one after another: they are the full lines of such a journal, or of a whole one and
-- then its end line
pub data AreRight (n : Numbers) (lists : List (List Cmd)) : List (List ℕ) → Type 0 where
  so_far : {journal : List Entry} {s : State} {left : ℕ → List Cmd}
      → GoesAlong n lists journal s left → AreRight n lists (full_lines journal)
  at_the_end : {journal : List Entry} {s : State}
      → IsWhole n lists journal s → AreRight n lists (full_lines journal ++ end_of journal s ∷ [])

-- the bytes are the full text of a run of the whole script
pub record IsRunText (n : Numbers) (lists : List (List Cmd)) (bytes : List ℕ) : Type 0 where
  pub journal : List Entry
  pub state : State
  pub whole : IsWhole n lists journal state
  pub text : bytes ≡ full_text_of journal state

-- the number, from 1, of the first line that is not right, or of the line that is missing
pub data IsNoRun (n : Numbers) (lists : List (List Cmd)) (bytes : List ℕ) : ℕ → Type 0 where
  wrong : {i : ℕ} → i < length (cut_lines bytes) → AreRight n lists (take i (cut_lines bytes))
      → (AreRight n lists (take (i + 1) (cut_lines bytes)) → ⊥) → IsNoRun n lists bytes (i + 1)
  missing : {journal : List Entry} {s : State} {left : ℕ → List Cmd}
      → GoesAlong n lists journal s left → cut_lines bytes ≡ full_lines journal
      → IsNoRun n lists bytes (length (cut_lines bytes) + 1)
