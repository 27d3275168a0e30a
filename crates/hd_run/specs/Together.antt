-- Runs of callers in threads: what each caller has done of its list. That a caller does its list in its order
-- is this project's own.
use Rattle.std.specs.Prelude.{◌≡◌, ◌≢◌, ℕ, List, [], ◌∷◌, ◌++◌, IsTrue}
use Rattle.hd_model.specs.{declared.command.Cmd.Cmd, State.Numbers, Valid.takes_memory}
use Rattle.hd_model.specs.Run.{Run, part_of, commands_of}
use Rattle.hd_world.specs.World.{WorldView}
use Rattle.hd_run.specs.Turns.{list_of}

-- A world whose callers ran a script from the start, and have these commands left: its journal is a run, and
-- each caller's list is the commands of its part of the journal, and then those that are left.
pub record RanTogether (n : Numbers) (lists : List (List Cmd)) (left : ℕ → List Cmd)
    (w : WorldView) : Type 0 where
  pub numbers : w.numbers ≡ n
  pub run : Run n w.journal w.state
  pub parts :
      (caller : ℕ) → list_of lists caller ≡ commands_of (part_of w.journal caller) ++ left caller

-- the whole script was run: no caller has a command left
abbrev pub RanAllTogether : Numbers → List (List Cmd) → WorldView → Type 0
RanAllTogether n lists w = RanTogether n lists (λ caller. []) w

-- no command is left, or the first one that is left may take memory
abbrev pub MayRunOut : List Cmd → Type 0
MayRunOut [] = Unit {0}
MayRunOut (next ∷ rest) = IsTrue (takes_memory next)

-- some caller has commands left, and the first one left of each that has any may take memory
pub record StoppedTogether (n : Numbers) (lists : List (List Cmd)) (w : WorldView) : Type 0 where
  pub left : ℕ → List Cmd
  pub ran : RanTogether n lists left w
  pub some : (caller : ℕ) × (left caller ≢ [])
  pub wants : (caller : ℕ) → MayRunOut (left caller)
