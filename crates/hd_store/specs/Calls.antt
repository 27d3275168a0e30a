-- What a call of a store takes, and what it comes to.
use Rattle.std.specs.Prelude.{◌≡◌, ℕ, ◌+◌, ◌<◌, ◌^◌, Bool, Option, None, Some, Result, Ok, Err}
use Rattle.std.specs.{Option.ForSome, FinMap.empty}
use Rattle.hd_model.specs.{declared.data.Entry.Entry, declared.data.Id.Id, declared.data.Slot.Slot, declared.data.Grown.Grown, declared.data.Grown.TheVariants.Zero, declared.data.Refusal.Refusal, declared.data.Reply.Reply, declared.command.Cmd.Cmd, Command.load_reply, PinnedAddresses.with_pinned, WellFormed.IsWellFormed}
use Rattle.hd_model.specs.declared.command.Cmd.TheVariants as cmd
use Rattle.hd_model.specs.State.{State, handle_register_of, last_serial, with_handle_register}
use Rattle.hd_commands.specs.Counts.{MayCountUp}
use Rattle.hd_commands.specs.Done.{done_of, done_with, entry_by}
use Rattle.hd_store.specs.{PinnedAddresses.KeepsPinned, StateHeap.KeepsStored, Store.Machine}
use Rattle.hd_store.specs.Offers.{HasLimits, GrowsUnoffered, Takes}

-- what is so of every store: its numbers are within the limits, and its state is well formed
pub record IsSound (m : Machine) : Type 0 where
  pub limits : HasLimits m.numbers
  pub well_formed : IsWellFormed m.numbers (with_pinned m.state empty)

-- the serial of a new object, and a count that rises, are below the ends of their types
pub record StaysWithin (s : State) (caller : ℕ) (c : Cmd) : Type 0 where
  pub serial : (d fields : ℕ) (fin : Bool) → c ≡ cmd.New d fields fin → last_serial s caller + 1 < 2 ^ 32
  pub count : (h : ℕ) → c ≡ cmd.HUp h → MayCountUp s caller h

-- a store with a slot, or nothing, in the first handle register of a caller
abbrev pub pointed : Machine → ℕ → Option Slot → Machine
pointed m caller slot = record m { state = with_handle_register m.state caller 0 slot }

-- the entry of an `hget` by that register that found a target, or null
abbrev pub load_entry : ℕ → ℕ → Option Id → Entry
load_entry caller d target = record {
  caller = caller;
  cmd = cmd.HGet d 0;
  slot = None;
  grown = Zero;
  reply = load_reply target;
}

-- all that callers of a store learn of a command: the returned entry is of this command; from any pinned
-- addresses that are those of their objects, it is a step from the state before to the one after with others
-- that are, and ages the clumps; after a collection the heap is as it has to be. An offer is taken; without
-- one what needs a slot grows, or finds the table full exactly where too few blocks are without a use, and
-- `trim` gives nothing back. `addr` returns the object's address, which it keeps while a handle pins it, and
-- over all commands but collections.
pub record HasCalled (old : Machine) (caller : ℕ) (command_is : Cmd) (offered : Option Slot) (new : Machine)
    (e : Entry) : Type 0 where
  pub command : (e.caller ≡ caller) × (e.cmd ≡ command_is)
  pub effect : KeepsPinned old e new
  pub offer : ForSome offered (Takes old.state caller e command_is)
  pub growth : GrowsUnoffered old.numbers old.state caller command_is offered e
  pub addresses : KeepsStored e old.state old.heap new.heap

-- what a call by value returned is what the command of a caller came to, whose reply is a function of the
-- value. It takes no offer.
abbrev pub HasReturned : {T : Type 0} → Machine → ℕ → Cmd → (T → Reply) → Machine → Result T Refusal → Type 0
HasReturned old caller c reply_of new result =
    HasCalled old caller c None new (entry_by caller c (done_of (done_with reply_of result)))

-- the first handle register of a caller is as it was
abbrev pub KeepsFirst : Machine → ℕ → Machine → Type 0
KeepsFirst old caller new = handle_register_of new.state caller 0 ≡ handle_register_of old.state caller 0

-- so it is of a call about the handle in a slot, of the command by the first handle register of the caller
-- that has the slot, and the call itself writes no handle register
abbrev pub HasReturnedOf : {T : Type 0} → Machine → ℕ → Slot → Cmd → (T → Reply) → Machine → Result T Refusal
    → Type 0
HasReturnedOf old caller slot c reply_of new result =
    HasReturned (pointed old caller (Some slot)) caller c reply_of (pointed new caller (Some slot)) result
    × KeepsFirst old caller new

-- a store with the slot of a made handle in a handle register of a caller
abbrev pub pointed_made : Machine → ℕ → ℕ → Result (Slot × Grown) Refusal → Machine
pointed_made m caller h (Ok made) =
    record m { state = with_handle_register m.state caller h (Some made.0) }
pointed_made m caller h (Err refused) = m
