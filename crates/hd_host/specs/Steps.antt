-- One command of a context, with a slot in its first handle register.
use Rattle.std.specs.Prelude.{◌≡◌, ℕ, Option, None}
use Rattle.hd_model.specs.{declared.data.Entry.Entry, declared.data.Slot.Slot, declared.command.Cmd.Cmd}
use Rattle.hd_model.specs.Run.{TakesLeast}
pub use Rattle.hd_store.specs.Calls.{pointed}
use Rattle.hd_store.specs.{PinnedAddresses.KeepsPinned, StateHeap.KeepsStored, Store.Machine}
use Rattle.hd_host.specs.View.{state_in}

-- a command of a context was done with a slot in its first handle register, which has none after it: its
-- entry is one step of the machine, from any pinned addresses that are those of their objects, to others that
-- are; the slots and blocks that it takes and gives back are the least; and an object keeps its address where
-- a handle pins it, and over all commands but collections
pub record HasStepped (old : Machine) (context : ℕ) (slot : Option Slot) (command : Cmd) (new : Machine)
    (e : Entry) : Type 0 where
  pub after : Machine
  pub command_is : (e.caller ≡ context) × (e.cmd ≡ command)
  pub effect : KeepsPinned (pointed old context slot) e after
  pub least : TakesLeast (state_in (pointed old context slot)) e command
  pub addresses : KeepsStored e (pointed old context slot).state old.heap after.heap
  pub new_is : new ≡ pointed after context None
