-- What private clauses alone cite.
use Rattle.std.specs.Prelude.{◌≡◌, ◌⊎◌, ℕ, Bool, true, false, Option, None, Some, Result, Ok, Err, ◌+◌, ◌*◌, ◌%◌, ◌<◌, ◌≤◌, ◌^◌, List, is_some, length, slice_index}
use Rattle.hd_model.specs.{declared.data.Entry.Entry, declared.data.Slot.Slot, declared.command.Cmd.Cmd, State.State, State.given_of, State.handle_at, State.handle_register_of, Step.blocks_needed, declared.limits.TheConstants.CLUMPS, declared.limits.TheConstants.HOST_BLOCKS, declared.limits.TheConstants.ROWS, declared.data.Refusal.Refusal, declared.data.Reply.Reply}
use Rattle.hd_model.specs.declared.data.Reply.TheVariants as reply
use Rattle.hd_store.specs.Calls.{pointed, HasCalled, IsSound}
use Rattle.hd_store.specs.{Growth.with_blocks, Store.Machine, Offers.HasLimits}
use Rattle.hd_store.specs.Offers.{Asks, block_back, handle_slot, no_room, object_room}
use Rattle.hd_pool.specs.Pool.{FreeSlots}
use Rattle.hd_slots.specs.Tied.{IsTied}
use Rattle.hd_slots.specs.declared.change.Change.{Change as Slots}
use Rattle.hd_slots.specs.declared.change.Change.TheVariants.{Takes, Adds, Frees, GivesBack, Keeps}
use Rattle.hd_host.specs.{declared.change.Change.Change, declared.fault.Fault.Fault, Changes.no_change, Handles.padded, View.state_in}
use Rattle.hd_host.specs.declared.stamps.TheConstants.{FREE}
use Rattle.hd_model.specs.declared.data.Refusal.TheVariants as refusal
use Rattle.hd_host.specs.declared.fault.Fault.TheVariants as fault

-- the fault of a host for a refusal of the machine
abbrev pub fault_of : Refusal → Fault
fault_of refusal.Null = fault.Null
fault_of refusal.BadField = fault.NoField
fault_of (refusal.HeapFull used size) = fault.HeapFull used size
fault_of (refusal.TableFull given) = fault.TableFull given
fault_of refusal.NotLive = fault.Stale
fault_of refusal.WrongKind = fault.WrongKind
fault_of refusal.EmptyRegister = fault.Stale
fault_of refusal.CountZero = fault.CountZero
fault_of refusal.Present = fault.Present

-- what a call returns that neither gives nor frees a slot: its value, and then it is the last one that was
-- done; or the fault of the refusal
abbrev pub Settled : {T : Type 0} → Change → Result T Refusal → Change → Result T Fault → Type 0
Settled last (Ok value) new result = (result ≡ Ok value) × (new ≡ no_change)
Settled last (Err why) new result = (result ≡ Err (fault_of why)) × (new ≡ last)

-- the first handle register of a context has no slot
abbrev pub HasNoSlot : State → ℕ → Type 0
HasNoSlot s context = handle_register_of s context 0 ≡ None

-- a command with an offer was done with a slot in the first handle register of its context, which has none
-- after it
pub record HasMoved (old : Machine) (context : ℕ) (slot : Option Slot) (command : Cmd)
    (offered : Option Slot) (new : Machine) (e : Entry) : Type 0 where
  pub after : Machine
  pub called : HasCalled (pointed old context slot) context command offered after e
  pub new_is : new ≡ pointed after context None

-- ---- what is always true of the parts of a host

-- these are the number of the slot where it is live, and else one that no slot has
abbrev pub low_bits : Bool → Slot → ℕ
low_bits true slot = slot.0
low_bits false slot = FREE

-- which slots are live, by their entries
abbrev pub ShowsLive : State → List ℕ → Type 0
ShowsLive s entries = (slot : Slot) → slot.0 < length entries
    → slice_index entries slot.0 % 2 ^ 24 ≡ low_bits (is_some (handle_at s slot)) slot

-- the numbers are within the limits, the store is well formed, the pool has the slots that are free in its
-- state, no handle register has a slot, and there is an entry for each slot, which shows whether it is live
pub record IsHost (m : Machine) (p : FreeSlots) (entries : List ℕ) : Type 0 where
  pub limits : HasLimits m.numbers
  pub tied : IsTied m.numbers (state_in m) p
  pub empty : (context h : ℕ) → handle_register_of m.state context h ≡ None
  pub stamps : length entries ≡ ROWS * (m.numbers.blocks + 1)
  pub live : ShowsLive m.state entries

-- ---- a host that has some of its blocks so far

-- a pool of so many blocks
abbrev pub with_room : ℕ → FreeSlots → FreeSlots
with_room blocks p = record p { blocks = blocks }

-- the table has at most as many blocks as the host may have, and the pool and the entries have those at least
pub record IsSized (limit : ℕ) (m : Machine) (room : ℕ) (entries : List ℕ) : Type 0 where
  pub sound : IsSound m
  pub ages : length m.ages ≡ CLUMPS * m.numbers.blocks
  pub few : m.numbers.blocks ≤ limit
  pub most : limit ≤ HOST_BLOCKS
  pub pool : m.numbers.blocks ≤ room
  pub stamps : ROWS * (m.numbers.blocks + 1) ≤ length entries
  pub within : length entries ≤ ROWS * (limit + 1)

-- and with all of them they are those of a host
pub record IsGrown (limit : ℕ) (m : Machine) (p : FreeSlots) (entries : List ℕ) : Type 0 where
  pub host : IsHost (with_blocks limit m) (with_room limit p) (padded limit entries)
  pub sized : IsSized limit m p.blocks entries

-- they grew, if at all, which nothing shows where they have all blocks
pub record HasGrown (limit : ℕ) (m : Machine) (p : FreeSlots) (entries : List ℕ) (m' : Machine)
    (p' : FreeSlots) (entries' : List ℕ) : Type 0 where
  pub sized : IsSized limit m' p'.blocks entries'
  pub store : with_blocks limit m' ≡ with_blocks limit m
  pub pool : with_room limit p' ≡ with_room limit p
  pub stamps : padded limit entries' ≡ padded limit entries

-- a command that asks for a slot finds the table full only where it would with all blocks
abbrev pub HasRoom : (limit given : ℕ) → Asks → Reply → Type 0
HasRoom limit given (object_room fields) r = Unit {0}
HasRoom limit given (handle_slot kind) r =
    r ≡ reply.Refused (refusal.TableFull given) → limit < given + blocks_needed kind
HasRoom limit given (block_back kind) r = Unit {0}
HasRoom limit given no_room r = Unit {0}

-- so it is where a command that takes a slot and is offered none has the blocks for it, or the host may not
-- have them
abbrev pub HasBlocksFor : (limit : ℕ) → Machine → Slots → Option Slot → Type 0
HasBlocksFor limit m (Takes kind) None = (given_of m.state + blocks_needed kind ≤ m.numbers.blocks)
    ⊎ (limit < given_of m.state + blocks_needed kind)
HasBlocksFor limit m (Takes kind) (Some slot) = Unit {0}
HasBlocksFor limit m Adds o = Unit {0}
HasBlocksFor limit m Frees o = Unit {0}
HasBlocksFor limit m (GivesBack kind) o = Unit {0}
HasBlocksFor limit m Keeps o = Unit {0}

-- the host may have the blocks that such a command needs
abbrev pub MayHaveBlocksFor : (limit : ℕ) → Machine → Slots → Option Slot → Type 0
MayHaveBlocksFor limit m (Takes kind) None = given_of m.state + blocks_needed kind ≤ limit
MayHaveBlocksFor limit m (Takes kind) (Some slot) = ⊥
MayHaveBlocksFor limit m Adds o = ⊥
MayHaveBlocksFor limit m Frees o = ⊥
MayHaveBlocksFor limit m (GivesBack kind) o = ⊥
MayHaveBlocksFor limit m Keeps o = ⊥
