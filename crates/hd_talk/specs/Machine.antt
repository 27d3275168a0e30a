-- A world as a dialogue sees it.
use Rattle.std.specs.Prelude.{ℕ}
use Rattle.hd_model.specs.declared.limits.TheConstants.{CALLERS}
use Rattle.hd_model.specs.State.{Numbers}
use Rattle.hd_seen.specs.Seen.{Picture, picture}
use Rattle.hd_step.specs.Machine.{MachineView}
use Rattle.hd_world.specs.World.{WorldView}

-- a world as what a dialogue sees of a machine
abbrev pub machine_view : WorldView → MachineView
machine_view w = record {
  numbers = w.numbers;
  state = w.state;
  journal = w.journal;
  spare = w.spare;
}

-- what is seen of a world
abbrev pub picture_in : WorldView → Picture
picture_in w = picture w.numbers w.state w.ages w.heap w.table

-- the numbers of a dialogue's world: it is for all callers
abbrev pub numbers_with : ℕ → ℕ → Numbers
numbers_with heap blocks = record { heap = heap; blocks = blocks; callers = CALLERS }
