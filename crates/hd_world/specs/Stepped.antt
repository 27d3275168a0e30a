-- What one command of a caller makes of a world, whatever steps it took.
use Rattle.std.specs.Prelude.{ℕ, Option}
use Rattle.hd_model.specs.{declared.data.Entry.Entry, declared.data.Slot.Slot, declared.command.Cmd.Cmd, Run.Run}
use Rattle.hd_store.specs.Offers.{RanOut}
use Rattle.hd_world.specs.{Applied.Applied, StateHeap.IsOfJournal, World.WorldView}

-- a command of a caller took one step, from the world u, whose journal is a run to its state, to the world w,
-- which is that of its journal
pub record Stepped (u w : WorldView) (caller : ℕ) (command : Cmd) (offer : Option Slot) (e : Entry) : Type 0
  where
    pub applied : Applied u caller command offer w e
    pub run : Run u.numbers u.journal u.state
    pub sound : IsOfJournal w

-- it ran out of memory, and the world is as it was
pub record WantsMemory (u w : WorldView) (command : Cmd) : Type 0 where
  pub out : RanOut u.numbers u.state command u w
  pub run : Run u.numbers u.journal u.state
