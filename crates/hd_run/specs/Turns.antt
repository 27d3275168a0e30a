-- Runs of callers one after another, as lists of turns: a caller and a command. That callers are
-- taken so is this project's own.
use Rattle.std.specs.Prelude.{◌≡◌, ℕ, ◌+◌, List, [], ◌∷◌, ◌++◌, map, filter, slice_index_or, ◌==◌, IsTrue}
use Rattle.hd_model.specs.{declared.command.Cmd.Cmd, declared.data.Entry.Entry, State.Numbers, Run.SoloRun, Valid.takes_memory}
use Rattle.hd_store.specs.Offers.{FitsHeap}
use Rattle.hd_world.specs.World.{WorldView}

-- the commands of a caller in a script
abbrev pub list_of : List (List Cmd) → ℕ → List Cmd
list_of lists caller = slice_index_or lists caller []

-- the turns of one caller
abbrev pub turns_of : ℕ → List Cmd → List (ℕ × Cmd)
turns_of caller commands = map (λ cmd. (caller, cmd)) commands

-- the turns of callers one after another in rising number, where the first list is that of a number
abbrev pub turns_from : ℕ → List (List Cmd) → List (ℕ × Cmd)
turns_from caller [] = []
turns_from caller (commands ∷ lists) = turns_of caller commands ++ turns_from (caller + 1) lists

-- the turn of an entry
abbrev pub turn_of : Entry → ℕ × Cmd
turn_of e = (e.caller, e.cmd)

-- the commands of a caller's turns
abbrev pub taken_by : ℕ → List (ℕ × Cmd) → List Cmd
taken_by caller turns = map (λ (p : ℕ × Cmd). p.1) (filter (λ (p : ℕ × Cmd). p.0 == caller) turns)

-- A world that ran a script from the start, and has these turns left: its journal is a solo run,
-- whose turns are a prefix of all turns of the script, and the ones that are left come after it.
pub record RanUpTo (n : Numbers) (lists : List (List Cmd)) (left : List (ℕ × Cmd))
    (w : WorldView) : Type 0 where
  pub numbers : w.numbers ≡ n
  pub run : SoloRun n w.journal w.state
  pub turns : turns_from 0 lists ≡ map turn_of w.journal ++ left

-- the whole script was run: no turn is left
abbrev pub RanWhole : Numbers → List (List Cmd) → WorldView → Type 0
RanWhole n lists w = RanUpTo n lists [] w

-- the run stopped at a command that may take memory, and not for a full heap: that of the first turn left
pub record StoppedAt (n : Numbers) (lists : List (List Cmd)) (w : WorldView) : Type 0 where
  pub next : ℕ × Cmd
  pub rest : List (ℕ × Cmd)
  pub ran : RanUpTo n lists (next ∷ rest) w
  pub wants : IsTrue (takes_memory next.1)
  pub fits : FitsHeap n w.state next.1
