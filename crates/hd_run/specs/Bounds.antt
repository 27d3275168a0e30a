-- The limits of a run.
use Rattle.std.specs.Prelude.{ℕ, List, length}
use Rattle.hd_model.specs.{declared.command.Cmd.Cmd, State.Numbers}

-- the most cells of its heap, and the blocks of its table
pub record Bounds : Type 0 where
  pub heap : ℕ
  pub blocks : ℕ

-- the numbers of a run of a script: the limits, and as many callers as the script has lists
abbrev pub numbers_for : Bounds → List (List Cmd) → Numbers
numbers_for b lists = record { heap = b.heap; blocks = b.blocks; callers = length lists }
