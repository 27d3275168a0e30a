-- What private clauses alone cite.
use Rattle.std.specs.Prelude.{List, ◌++◌, flat_map, map, replicate, Option, ◌≡◌, ℕ, ◌+◌, ◌*◌, ◌≤◌, length, sum_by, cond, Some, option_map, IsSome, ◌↔◌, Bool, true, false, ◌<◌, ◌^◌, None, ◌≢◌, IfSome, ◌⊎◌}
use Rattle.std.specs.{Option.option_to_list, Option.ForSome, Ordering.nat_cmp}
use Rattle.std.specs.FinMap.{FinMap, empty, get, len, values, insert, retain_keys}
use Rattle.hd_model.specs.{declared.data.Addr.Addr, declared.data.Id.Id, declared.data.Kind.TheVariants.Dependent, Scene.Scene, Scene.IsWhole, Table.row_at, Table.fits, declared.data.Report.Report, Collect.CollectsState, declared.data.Slot.Slot, declared.data.Entry.Entry, declared.command.Cmd.Cmd, Touched.touched_by, Aging.aged_by, Valid.IsValid, Command.slot_of_key, Command.made_handle, declared.data.Kind.Kind, declared.data.Grown.Grown, declared.data.RootId.RootId, declared.data.Make.Make}
use Rattle.hd_scan.specs.declared.gathering.Root.{Root}
use Rattle.hd_model.specs.Kinds.{is_paired, kind_of}
use Rattle.hd_model.specs.Ages.{HasSoundAges, HasSoundCards, grown, age_of}
use Rattle.hd_model.specs.declared.limits.TheConstants.{BLOCKS, HOST_HEAP, HOST_BLOCKS, CLUMPS, OLDEST, REGISTERS}
use Rattle.hd_model.specs.State.{Handle, secondary, BlockUse, handles_of, extra_data, State, last_serial, identity_of, register_of, WeakEntry, Numbers, start_of, given_of, block_of, secondary_of, IsFree, total_size}
use Rattle.hd_model.specs.Table.{Queue}
use Rattle.hd_model.specs.Heap.{Heap, object_at, id_at, is_carded, used_of, HasIdentities, is_set}
use Rattle.hd_plan.specs.{Plan.HasNoEmptyRegion, Commit.NeedsCard}
use Rattle.hd_model.specs.PinnedAddresses.{is_pinned, with_pinned, MayReturn}
use Rattle.hd_model.specs.Step.{StepOf, IsLeastUnused, blocks_needed, with_growth, MayGive}
use Rattle.hd_model.specs.WellFormed.{HasHandles, HasWeakTable, Names}
use Rattle.hd_commands.specs.{Counts.MayCountUp, Handles.handle_named}
use Rattle.hd_model.specs.{declared.handle.Handle.Handle as CommandHandle, Handles.extra_of}
use Rattle.hd_model.specs.declared.data.Grown.TheVariants.{Zero, One, Two, Back}
use Rattle.hd_heap.specs.{declared.fault.NewFault.NewFault, declared.fault.NewFault.TheVariants.Full, declared.fault.NewFault.TheVariants.Memory}
use Rattle.hd_store.specs.{Stored.Parts, Stored.callers_of, Store.Machine, Store.seen_by, StateHeap.IsCompactStore, PinnedAddresses.AreAddresses}
use Rattle.hd_store.specs.Reading.{name_in, named_in, IsNamed}
use Rattle.hd_store.specs.Offers.{IsOffer, GrowsUnoffered, Takes}
use Rattle.hd_cwt.specs.WeakTable.{WeakTable}
use Rattle.hd_store.specs.Visited.{buckets_of}
use Rattle.hd_model.specs.declared.command.Cmd.TheVariants as cmd

-- the least unused block, and for a kind with extra data the next one too
abbrev pub GrowsBy : Numbers → State → Kind → Grown → Type 0
GrowsBy n s kind Zero = ⊥
GrowsBy n s kind (One block) = (is_paired kind ≡ false) × IsLeastUnused n s 1 block
GrowsBy n s kind (Two block other) =
    (is_paired kind ≡ true) × IsLeastUnused n s 1 block × IsLeastUnused n s (block + 1) other
GrowsBy n s kind (Back block) = ⊥

-- nothing is changed, and the heap is full exactly where the limit does not allow `cells` more cells
abbrev pub IsObjectRefused : Machine → Machine → ℕ → NewFault → Type 0
IsObjectRefused old new cells (Full used size) =
    (new ≡ old) × (used ≡ total_size old.state) × (size ≡ cells)
    × (old.numbers.heap < total_size old.state + cells)
IsObjectRefused old new cells Memory = (new ≡ old) × (total_size old.state + cells ≤ old.numbers.heap)

-- the queue with more room, or as it was
abbrev pub IsRoomier : Queue → Queue → Type 0
IsRoomier old new = (new.queued ≡ old.queued) × (old.room ≤ new.room)

-- ---- the anchors of a store, by address

-- the address of what a root references
abbrev pub address_of : Root → Addr
address_of root = root.at

-- what statics reference, what is queued, and what handles hold, one after the other
abbrev pub anchor_list : List (Option Addr) → List Addr → List Root → List Addr
anchor_list statics queued held = (flat_map option_to_list statics ++ queued) ++ map address_of held

-- ---- the parts of a store by address, the state of the machine that they represent, and what is always true of
-- them.

-- what a collection reads
abbrev pub scene_of_parts : Parts → Scene Addr
scene_of_parts f = record {
  object = object_at f.heap;
  handle = row_at f.table;
  named = f.roots;
  queue = f.queue.queued;
}

-- the row of a slot that the weak table holds: a dependent handle to the object with the slot's key, or to
-- null where the slot has no key
pub record IsTied (h : Heap) (rows : FinMap nat_cmp (Handle Addr)) (slot : ℕ) (key : Option Id) : Type 0 where
  pub target : Option Addr
  pub value : Option Addr
  pub row : get rows slot
      ≡ Some (record { kind = Dependent; target = target; extra = secondary value })
  pub key_is : option_map (id_at h) target ≡ key

-- 1 for a block of handles with extra data, and 1 for one of extra data
abbrev pub one_paired : BlockUse → ℕ
one_paired (handles_of k) = cond (is_paired k) 1 0
one_paired extra_data = 0

abbrev pub one_extra : BlockUse → ℕ
one_extra (handles_of k) = 0
one_extra extra_data = 1

-- a block with a use is one of the table's, and as many blocks have extra data as have handles with extra data
pub record HasUses (uses : FinMap nat_cmp BlockUse) (blocks : ℕ) : Type 0 where
  pub within : (block : ℕ) → IsSome (get uses block) → (1 ≤ block) × (block ≤ blocks)
  pub extras : sum_by one_paired (values uses) ≡ sum_by one_extra (values uses)

-- the weak table has the blocks of the table and its number of buckets
pub record IsWide (blocks callers : ℕ) (w : WeakTable) : Type 0 where
  pub blocks_are : w.blocks ≡ blocks
  pub buckets_are : w.buckets ≡ buckets_of blocks callers

-- or it has no slot yet, where the table has more blocks than a script's
abbrev pub HasWeakRoom : (blocks callers : ℕ) → WeakTable → Type 0
HasWeakRoom blocks callers w =
    IsWide blocks callers w ⊎ ((BLOCKS < blocks) × ((slot : ℕ) → get w.held slot ≡ None))

-- a store whose weak table has its room: the table is no larger than a script's, or the weak table has a slot
abbrev pub HasTable : Machine → Type 0
HasTable m = (m.numbers.blocks ≤ BLOCKS) ⊎ (((slot : ℕ) → get m.state.weak slot ≡ None) → ⊥)

-- a new entry gets a slot: one is offered, or enough blocks are unused
abbrev pub GetsSlot : Machine → Option Slot → Type 0
GetsSlot m offered = offered ≡ None → given_of m.state + blocks_needed Dependent ≤ m.numbers.blocks

-- the weak table has no slot yet, and may have no room, and a new entry gets a slot
pub record LacksTable (m : Machine) (offered : Option Slot) : Type 0 where
  pub large : BLOCKS < m.numbers.blocks
  pub unused : (slot : ℕ) → get m.state.weak slot ≡ None
  pub room : GetsSlot m offered

-- one weak table, or another in its place
abbrev pub chosen : WeakTable → Option WeakTable → WeakTable
chosen w None = w
chosen w (Some other) = other

-- what the first entry brings with it, where the weak table has no room yet: one with the room
abbrev pub BringsTable : Machine → Option WeakTable → Type 0
BringsTable m None = HasTable m
BringsTable m (Some w) = IsWide m.numbers.blocks m.numbers.callers w
    × ((slot : ℕ) → get w.held slot ≡ None) × ((slot : ℕ) → get m.state.weak slot ≡ None)

-- what a store keeps, which is also what a collection asks for: every reference is to an object, no two
-- objects have one identity, ages and cards are sound, each region in use has an object, the queue has room
-- for all objects, the objects take no more cells than the limit, the blocks have their uses, each slot of the
-- weak table has the row of its entry, and that table has its room
pub record IsStored (f : Parts) : Type 0 where
  pub whole : IsWhole (scene_of_parts f)
  pub identities : HasIdentities f.heap
  pub ages : HasSoundAges (object_at f.heap) (row_at f.table) f.ages
  pub cards : HasSoundCards (object_at f.heap) (is_carded f.heap)
  pub full : HasNoEmptyRegion f.heap
  pub room : len f.heap.objects ≤ f.queue.room
  pub within : used_of f.heap ≤ f.heap.limit
  pub limit : f.heap.limit ≤ HOST_HEAP
  pub roots : REGISTERS * callers_of f + REGISTERS ≡ length f.roots
  pub serials : length f.serials ≡ callers_of f
  pub clumps : CLUMPS * f.table.blocks ≡ length f.ages
  pub blocks : f.table.blocks ≤ HOST_BLOCKS
  pub uses : HasUses f.table.uses f.table.blocks
  pub tied : (slot : ℕ) (key : Option Id) → get f.weak.held slot ≡ Some key
      → IsTied f.heap f.table.rows slot key
  pub weak_room : HasWeakRoom f.table.blocks (callers_of f) f.weak

-- a machine with these numbers in which nothing is made yet
pub record IsFirst (n : Numbers) (m : Machine) : Type 0 where
  pub numbers : m.numbers ≡ n
  pub state : m.state ≡ start_of m.numbers
  pub names : m.names ≡ empty
  pub ages : m.ages ≡ replicate (CLUMPS * n.blocks) OLDEST

-- ---- the pinned addresses that `addr` returned: a store keeps none, since each is the address of its object

-- each address that had an object has it still
abbrev pub KeepsNames : FinMap nat_cmp Id → FinMap nat_cmp Id → Type 0
KeepsNames old new = (a : ℕ) (x : Id) → get old a ≡ Some x → get new a ≡ Some x

-- so it is where an object may have been made, and else the identities are the same
abbrev pub HasNames : Bool → FinMap nat_cmp Id → FinMap nat_cmp Id → Type 0
HasNames true old new = KeepsNames old new
HasNames false old new = new ≡ old

-- the pinned addresses that a collection keeps: those of the objects that a handle pins
abbrev pub kept_pinned : State → FinMap nat_cmp ℕ → FinMap nat_cmp ℕ
kept_pinned s pinned = retain_keys pinned (is_pinned s.handles)

-- a store is collected: the state by identity, whatever pinned addresses were returned, the ages, and the
-- cards, which are set exactly where they are needed; after a collection of generation 2 the heap is compact
pub record HasCollected (old new : Machine) (n : ℕ) (report : Report) : Type 0 where
  pub numbers : new.numbers ≡ old.numbers
  pub ages : new.ages ≡ grown n old.ages
  pub collects :
      (before : FinMap nat_cmp ℕ)
      → CollectsState n (with_pinned old.state before) (with_pinned new.state (kept_pinned old.state before))
      report
  pub addresses :
      (before : FinMap nat_cmp ℕ) → AreAddresses old.names before
      → AreAddresses new.names (kept_pinned old.state before)
  pub cards : (card : ℕ) → (is_set new.heap card ≡ true) ↔ NeedsCard new.heap card
  pub compact : n ≡ 2 → IsCompactStore new.state.handles new.heap

-- whatever pinned addresses were returned, an object's address may be returned too, as one of them
pub record HasAddress (m : Machine) (at : Addr) : Type 0 where
  pub may :
      (before : FinMap nat_cmp ℕ) → AreAddresses m.names before
      → MayReturn (with_pinned m.state before) (name_in m.names at) at.0
  pub addresses :
      (before : FinMap nat_cmp ℕ) → AreAddresses m.names before
      → AreAddresses m.names (insert before (name_in m.names at).0 at.0)

-- ---- what a command of a caller asks of a store, and how it leaves it

-- what a command of a caller asks of a store
pub record MayRun (m : Machine) (number : ℕ) (c : Cmd) (offered : Option Slot) : Type 0 where
  pub handles : HasHandles m.numbers m.state
  pub objects : (d : ℕ) → Names m.state (register_of m.state number d)
  pub weak : HasWeakTable m.state
  pub caller : number < m.numbers.callers
  pub valid : IsValid c
  pub offer : IsOffer m.state number c offered
  pub serial : (d fields : ℕ) (fin : Bool) → c ≡ cmd.New d fields fin → last_serial m.state number + 1 < 2 ^ 32
  pub fresh : (d fields : ℕ) (fin : Bool) → c ≡ cmd.New d fields fin
      → get m.state.objects (identity_of number (last_serial m.state number + 1)).0 ≡ None
  pub count : (h : ℕ) → c ≡ cmd.HUp h → MayCountUp m.state number h

-- a command was done, with its entry, and had an effect on the store; an offer is taken, and without one the
-- table grows as it has to
pub record HasRun (old : Machine) (number : ℕ) (c : Cmd) (offered : Option Slot) (e : Entry)
    (effect_is : Type 0) : Type 0 where
  pub caller : e.caller ≡ number
  pub command : e.cmd ≡ c
  pub effect : effect_is
  pub offer : ForSome offered (Takes old.state number e c)
  pub growth : GrowsUnoffered old.numbers old.state number c offered e

-- the effect of a command that neither reads nor changes a pinned address; of any, it is `KeepsPinned`
pub record IsPlainStep (old : Machine) (c : Cmd) (new : Machine) (e : Entry) : Type 0 where
  pub plain : (touched_by c).pinned ≡ false
  pub step : StepOf old.numbers old.state e new.state c
  pub numbers : new.numbers ≡ old.numbers
  pub names : HasNames (touched_by c).makes_object old.names new.names
  pub ages : new.ages ≡ aged_by old.state e old.ages

-- ---- entries of the weak table of a store, by address

-- the entry with the object at an address as its key, and another or null as its value
abbrev pub entry_at : FinMap nat_cmp Id → Addr → Option Addr → WeakEntry Id
entry_at names key value = record { key = name_in names key; value = named_in names value }

-- the weak table has no entry of the object at an address
abbrev pub HasNoEntry : Machine → Addr → Type 0
HasNoEntry m key = slot_of_key m.state (name_in m.names key) ≡ None

-- an entry may be put into a slot: its key and its value are objects, and the slot's clump has age 0
pub record MayHaveEntry (m : Machine) (slot : Slot) (key : Addr) (value : Option Addr) : Type 0 where
  pub known : IsSome (get m.names key.0)
  pub named : IsNamed m.names value
  pub young : age_of m.ages slot.0 ≡ 0

-- ---- the roots of a store, with the identities of their objects

-- a root with the identity of its object
abbrev pub root_named : Heap → Root → RootId
root_named h root = record { slot = root.slot; kind = root.kind; id = id_at h root.at }

-- ---- a new handle and its slot

-- a slot that a new handle may get, which is free once the table has grown; an offered one is taken without
-- growth
pub record IsSlotGiven (old new : Machine) (kind : Kind) (offer : Option Slot)
    (slot : Slot) (grown : Grown) : Type 0 where
  pub may : MayGive old.numbers old.state kind grown slot
  pub store : new ≡ record old { state = with_growth old.state kind grown; table = new.table }
  pub free : IsFree new.state kind slot
  pub low : 1 ≤ block_of slot
  pub high : block_of slot ≤ old.numbers.blocks
  pub offered : IfSome offer (λ given. (given ≡ slot) × (grown ≡ Zero))
  pub grows : offer ≡ None → (grown ≢ Zero) × (given_of old.state + blocks_needed kind ≤ old.numbers.blocks)

-- the handle that a caller makes with what rT references
pub record IsMadeHandle (m : Machine) (caller : ℕ) (make : Make) (t : ℕ) (h : CommandHandle Addr) : Type 0 where
  pub handle : handle_named (seen_by m) h ≡ made_handle m.state caller make t
  pub kind : h.kind ≡ kind_of make
  pub target_is : named_in m.names h.target ≡ register_of m.state caller t
  pub fits : fits h.kind (extra_of h.extra) ≡ true
  pub target : IsNamed m.names h.target
  pub secondary : IsNamed m.names (secondary_of (extra_of h.extra))
  pub paired : h.target ≡ None → secondary_of (extra_of h.extra) ≡ None
