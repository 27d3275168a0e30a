-- What every run of a generated script prints.
use Rattle.std.specs.Prelude.{◌≡◌, ℕ, ◌+◌, ◌*◌, ◌/◌, ◌≤◌, List, [], slice_index_or}
use Rattle.hd_model.specs.declared.data.Entry.{Entry}
use Rattle.hd_model.specs.declared.limits.TheConstants.{MOST_ROUNDS, LOAD_CALLERS, ROUNDS_TO_COLLECTION}
use Rattle.hd_model.specs.State.{State}
use Rattle.hd_model.specs.Run.{Run, part_of, commands_of}
use Rattle.hd_model.specs.Generated.{load_numbers, generated_lists, load_text, load_text_of}

-- a run of the script of a load, whose callers come in any order: each caller's entries are of its list
pub record IsLoadRun (rounds : ℕ) (journal : List Entry) (s : State) : Type 0 where
  pub run : Run load_numbers journal s
  pub parts :
      (caller : ℕ) → commands_of (part_of journal caller) ≡ slice_index_or (generated_lists rounds) caller []

-- the collections of a load: one of each caller every ROUNDS_TO_COLLECTION rounds
abbrev pub collections_in : ℕ → ℕ
collections_in rounds = LOAD_CALLERS * (rounds / ROUNDS_TO_COLLECTION)

-- the line of a load of `rounds` rounds: in each a caller does 8 commands, makes an object, and reads the
-- number of the round
abbrev pub line_of_rounds : ℕ → List ℕ
line_of_rounds rounds =
    load_text (LOAD_CALLERS * (8 * rounds) + collections_in rounds) (LOAD_CALLERS * rounds) 0
    (collections_in rounds) (LOAD_CALLERS * (rounds * (rounds + 1) / 2))

-- each such run prints the same line: all objects are made, no handle is live at the end, and each caller
-- reads its values
abbrev pub LoadsHaveTheirLine : Type 0
LoadsHaveTheirLine =
    (rounds : ℕ) (journal : List Entry) (s : State) → 1 ≤ rounds → rounds ≤ MOST_ROUNDS
    → IsLoadRun rounds journal s → load_text_of journal s ≡ line_of_rounds rounds
