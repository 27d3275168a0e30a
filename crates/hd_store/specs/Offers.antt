-- What a command asks of the heap and of the table, what may be offered to it, and what it takes and returns
-- beyond its step.
use Rattle.std.specs.Prelude.{◌≡◌, ◌≢◌, ℕ, ◌+◌, ◌<◌, ◌≤◌, ◌⊎◌, Bool, true, false, cond, Option, Some, None}
use Rattle.std.specs.{FinMap.get, Option.option_map_or}
use Rattle.hd_model.specs.declared.limits.TheConstants.{BLOCKS, HOST_HEAP, HOST_BLOCKS, HOST_CONTEXTS}
use Rattle.hd_model.specs.{declared.data.Entry.Entry, declared.data.Slot.Slot, declared.data.Kind.Kind, declared.command.Cmd.Cmd, declared.class.Class.Class, declared.data.Grown.TheVariants.Zero, declared.data.Grown.TheVariants.Back, Class.class_of, Kinds.kind_of, Touched.touched_by, Step.blocks_needed, Valid.takes_memory}
use Rattle.hd_model.specs.declared.data.Refusal.TheVariants as refusal
use Rattle.hd_model.specs.declared.data.Reply.TheVariants as reply
use Rattle.hd_model.specs.declared.class.Class.TheVariants as class
use Rattle.hd_model.specs.State.{Numbers, State, given_of, total_size, block_of, first_slot, IsFree, IsAllFree}
use Rattle.hd_model.specs.declared.data.Kind.TheVariants as kinds
use Rattle.hd_model.specs.Command.{Adding, is_refused, in_idle, in_new, adding_of}

-- the numbers of each store, which are a host's: a heap of 3 to HOST_HEAP cells, 1 to HOST_BLOCKS blocks, and
-- 1 to HOST_CONTEXTS callers
pub record HasLimits (n : Numbers) : Type 0 where
  pub heap : (3 ≤ n.heap) × (n.heap ≤ HOST_HEAP)
  pub blocks : (1 ≤ n.blocks) × (n.blocks ≤ HOST_BLOCKS)
  pub callers : (1 ≤ n.callers) × (n.callers ≤ HOST_CONTEXTS)

-- what a command asks of the heap and of the table: room for an object of n fields, a slot for a handle of a
-- kind, that a block of a kind is given back, or nothing
pub data Asks : Type 0 where
  object_room : ℕ → Asks
  handle_slot : Kind → Asks
  block_back : Kind → Asks
  no_room : Asks

-- a `cadd` needs a slot that the weak table has yet to get where it is not refused and no slot of the table
-- is idle; it asks for one as an `hnew` of a dependent handle does
abbrev pub needs_new : Adding → Bool
needs_new (is_refused refusal) = false
needs_new (in_idle slot key) = false
needs_new (in_new key) = true

abbrev pub needs_slot : State → ℕ → Cmd → Bool
needs_slot s caller c =
    option_map_or (λ (added : ℕ × ℕ). needs_new (adding_of s caller added.0)) (touched_by c).adds false

abbrev pub class_asks : (ℕ → Adding) → Class → Asks
class_asks adding (class.MakesObject fields) = object_room fields
class_asks adding (class.TakesSlot make t) = handle_slot (kind_of make)
class_asks adding (class.StoresTarget h t) = no_room
class_asks adding (class.StoresSecondary h) = no_room
class_asks adding class.Frees = no_room
class_asks adding (class.GivesBack kind) = block_back kind
class_asks adding (class.Collects n) = no_room
class_asks adding (class.RepliesAddress h) = no_room
class_asks adding (class.AddsEntry k v) =
    cond (needs_new (adding k)) (handle_slot kinds.Dependent) no_room
class_asks adding (class.LooksUp k) = no_room
class_asks adding (class.Searches r) = no_room
class_asks adding class.Plain = no_room

abbrev pub asks_of : State → ℕ → Cmd → Asks
asks_of s caller c = class_asks (adding_of s caller) (class_of c)

-- what may be offered: to `hnew` a free slot of its kind, so too to a `cadd` that needs a slot, and to `trim`
-- the first slot of a block of its kind all of whose slots are free
abbrev pub MayOffer : State → Asks → Slot → Type 0
MayOffer s (object_room fields) slot = ⊥
MayOffer s (handle_slot kind) slot = IsFree s kind slot
MayOffer s (block_back kind) slot =
    (slot ≡ first_slot (block_of slot)) × IsAllFree s kind (block_of slot)
MayOffer s no_room slot = ⊥

abbrev pub IsOffer : State → ℕ → Cmd → Option Slot → Type 0
IsOffer s caller c None = Unit {0}
IsOffer s caller c (Some slot) = MayOffer s (asks_of s caller c) slot

-- without an offer what needs a slot grows, or finds the table full exactly where fewer blocks are without a
-- use than the kind needs
pub record GrowsOrIsFull (n : Numbers) (s : State) (needed : ℕ) (e : Entry) : Type 0 where
  pub full : n.blocks < given_of s + needed → e.reply ≡ reply.Refused (refusal.TableFull (given_of s))
  pub grows : given_of s + needed ≤ n.blocks → (e.reply ≡ reply.Done) × (e.grown ≢ Zero)

-- without an offer `trim` gives nothing back
abbrev pub GrowsFor : Numbers → State → Asks → Option Slot → Entry → Type 0
GrowsFor n s (object_room fields) o e = Unit {0}
GrowsFor n s (handle_slot kind) None e = GrowsOrIsFull n s (blocks_needed kind) e
GrowsFor n s (handle_slot kind) (Some slot) e = Unit {0}
GrowsFor n s (block_back kind) None e = e.reply ≡ reply.Value 0
GrowsFor n s (block_back kind) (Some slot) e = Unit {0}
GrowsFor n s no_room o e = Unit {0}

abbrev pub GrowsUnoffered : Numbers → State → ℕ → Cmd → Option Slot → Entry → Type 0
GrowsUnoffered n s caller c offer e = GrowsFor n s (asks_of s caller c) offer e

-- an offered slot was taken without growth
abbrev pub TakesSlot : Entry → Slot → Type 0
TakesSlot e slot = (e.slot ≡ Some slot) × (e.grown ≡ Zero) × (e.reply ≡ reply.Done)

-- an offered slot was taken, and an offered block given back
abbrev pub TakesFor : Entry → Asks → Slot → Type 0
TakesFor e (object_room fields) slot = TakesSlot e slot
TakesFor e (handle_slot kind) slot = TakesSlot e slot
TakesFor e (block_back kind) slot = (e.reply ≡ reply.Value 1) × (e.grown ≡ Back (block_of slot))
TakesFor e no_room slot = TakesSlot e slot

abbrev pub Takes : State → ℕ → Entry → Cmd → Slot → Type 0
Takes s caller e c slot = TakesFor e (asks_of s caller c) slot

-- a full heap is reported before memory is taken: the heap has room for the object of a `new` that runs out
-- of memory
abbrev pub FitsHeap : Numbers → State → Cmd → Type 0
FitsHeap n s c =
    (fields : ℕ) → class_of c ≡ class.MakesObject fields → total_size s + (fields + 3) ≤ n.heap

-- a store of more blocks than a script's, whose weak table has no slot, takes the memory of that with its
-- first entry, once this is sure to get a slot
pub record TakesTable (n : Numbers) (s : State) (caller : ℕ) (c : Cmd) (offered : Option Slot) : Type 0 where
  pub large : BLOCKS < n.blocks
  pub unused : (slot : ℕ) → get s.weak slot ≡ None
  pub needs : needs_slot s caller c ≡ true
  pub room : offered ≡ None → given_of s + blocks_needed kinds.Dependent ≤ n.blocks

-- a command ran out of memory, which it may take, and not where the heap was full; nothing is changed
pub record RanOut {V : Type 0} (n : Numbers) (s : State) (c : Cmd) (old new : V) : Type 0 where
  pub memory : takes_memory c ≡ true
  pub fits : FitsHeap n s c
  pub unchanged : new ≡ old

-- so it is of any command, with the first entry of a weak table among them
pub record RanOutOf {V : Type 0} (n : Numbers) (s : State) (caller : ℕ) (c : Cmd) (offered : Option Slot)
    (old new : V) : Type 0 where
  pub memory : (takes_memory c ≡ true) ⊎ TakesTable n s caller c offered
  pub fits : FitsHeap n s c
  pub unchanged : new ≡ old
