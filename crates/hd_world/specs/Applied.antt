-- What a command of a world does.
use Rattle.std.specs.Prelude.{[], ◌≡◌, ℕ, ◌+◌, ◌∷◌, ◌++◌, Option}
use Rattle.std.specs.Option.{ForSome}
use Rattle.hd_model.specs.{declared.data.Entry.Entry, declared.data.Slot.Slot, declared.command.Cmd.Cmd, Step.Step, Aging.aged_by}
use Rattle.hd_store.specs.{Offers.Takes, StateHeap.LeavesHeap}
use Rattle.hd_world.specs.World.{WorldView, GrowsWithout}
use Rattle.hd_world.specs.StateHeap.{KeepsAddresses}

-- all that callers of a world learn of a command, where those of its store say its effect alone (`HasRun`):
-- the returned entry is of this command and is appended; it is a step from the state before to the one after,
-- and ages the clumps. An offer is taken; without one what needs a slot grows, or finds the table full
-- exactly where too few blocks are without a use, and `trim` gives nothing back. A collection leaves exactly
-- the needed cards set, and one of generation 2 leaves the heap compact. `addr` returns the object's address,
-- which it keeps while a handle pins it, and over all commands but collections.
pub record Applied (old : WorldView) (caller : ℕ) (command_is : Cmd) (offered : Option Slot) (new : WorldView)
    (e : Entry) : Type 0 where
  pub command : (e.caller ≡ caller) × (e.cmd ≡ command_is)
  pub journal : new.journal ≡ old.journal ++ e ∷ []
  pub spare : new.spare + 1 ≡ old.spare
  pub step : Step old.numbers old.state e new.state
  pub ages : new.ages ≡ aged_by old.state e old.ages
  pub numbers : new.numbers ≡ old.numbers
  pub offer : ForSome offered (Takes old.state caller e command_is)
  pub growth : GrowsWithout old caller command_is offered e
  pub heap : LeavesHeap e new.state.handles new.heap
  pub addresses : KeepsAddresses e old new
