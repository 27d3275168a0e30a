-- The state of the plain handle machine: objects by identity, handles by slot, and what references them. Of
-- addresses it has only the pinned ones that `addr` returned. It has no regions, masks or threads.
use Rattle.std.specs.Prelude.{◌≡◌, ℕ, ◌+◌, ◌*◌, ◌/◌, ◌^◌, Bool, false, List, [], replicate, length, sum_by, slice_index, slice_index_or, slice_set, Option, Some, None, unwrap_or, option_map, map}
use Rattle.std.specs.FinMap.{FinMap, get, insert, remove, empty, values, len}
use Rattle.std.specs.Ordering.{nat_cmp}
use Rattle.std.specs.Option.{option_or}
use Rattle.hd_model.specs.Data.{Id, Slot, Kind, Strength}
use Rattle.hd_model.specs.declared.data.Kind.TheVariants.{Dependent}
use Rattle.hd_model.specs.declared.limits.TheConstants.{HEADER, REGISTERS, ROWS}

-- the numbers of a run, which no command changes: the limit of the heap in cells, the blocks and the callers
pub record Numbers : Type 0 where
  pub heap : ℕ
  pub blocks : ℕ
  pub callers : ℕ

-- An object is referenced by a name of some type N: an identity in the machine, an address in a heap.

-- an object: its fields, each a name or null, its value, its generation, and whether it is registered for
-- finalization (.NET's generations and finalizers)
pub record Object (N : Type 0) : Type 0 where
  pub fields : List (Option N)
  pub value : ℕ
  pub generation : ℕ
  pub registered : Bool

-- what a handle has beside its target: a variable one its strength, a dependent one its secondary, a
-- ref-counted one its count (CoreCLR's extra info of a handle)
pub data Extra (N : Type 0) : Type 0 where
  nothing : Extra N
  strength : Strength → Extra N
  secondary : Option N → Extra N
  count : ℕ → Extra N

-- a handle: its kind, its target or null, and its extra (.NET's GCHandle and DependentHandle)
pub record Handle (N : Type 0) : Type 0 where
  pub kind : Kind
  pub target : Option N
  pub extra : Extra N

-- an entry of the weak table: its key, and the value attached to it, or null (.NET's ConditionalWeakTable)
pub record WeakEntry (N : Type 0) : Type 0 where
  pub key : N
  pub value : Option N

-- the secondary of an extra, or null
abbrev pub secondary_of : {N : Type 0} → Extra N → Option N
secondary_of nothing = None
secondary_of (strength _) = None
secondary_of (secondary o) = o
secondary_of (count _) = None

-- the strength of an extra
abbrev pub strength_in : {N : Type 0} → Extra N → Option Strength
strength_in nothing = None
strength_in (strength given) = Some given
strength_in (secondary _) = None
strength_in (count _) = None

-- the count of an extra
abbrev pub count_of : {N : Type 0} → Extra N → ℕ
count_of nothing = 0
count_of (strength _) = 0
count_of (secondary _) = 0
count_of (count c) = c

-- the extra with null as its secondary, if it has one
abbrev pub without_secondary : {N : Type 0} → Extra N → Extra N
without_secondary nothing = nothing
without_secondary (strength s) = strength s
without_secondary (secondary o) = secondary None
without_secondary (count c) = count c

-- the same extra, object and handle, where each name x is replaced by f x
abbrev pub rename_extra : {N M : Type 0} → (N → M) → Extra N → Extra M
rename_extra f nothing = nothing
rename_extra f (strength s) = strength s
rename_extra f (secondary o) = secondary (option_map f o)
rename_extra f (count c) = count c

abbrev pub rename_object : {N M : Type 0} → (N → M) → Object N → Object M
rename_object f o = record {
  fields = map (option_map f) o.fields;
  value = o.value;
  generation = o.generation;
  registered = o.registered;
}

abbrev pub rename_handle : {N M : Type 0} → (N → M) → Handle N → Handle M
rename_handle f h =
    record { kind = h.kind; target = option_map f h.target; extra = rename_extra f h.extra }

-- what a block of the table is used for: handles of one kind, or the extra data of a block of handles
pub data BlockUse : Type 0 where
  handles_of : Kind → BlockUse
  extra_data : BlockUse

-- the state of a run: objects by the number of their identity, handles by the number of their slot, the slots
-- that the weak table holds, each with its entry or idle, registers by caller and number, the statics and the
-- board that all callers share, the finalization queue, the pinned addresses that `addr` returned, the use of
-- each block that has one, and each caller's last serial
pub record State : Type 0 where
  pub objects : FinMap nat_cmp (Object Id)
  pub handles : FinMap nat_cmp (Handle Id)
  pub weak : FinMap nat_cmp (Option (WeakEntry Id))
  pub registers : List (List (Option Id))
  pub handle_registers : List (List (Option Slot))
  pub statics : List (Option Id)
  pub board : List (Option Slot)
  pub queue : List Id
  pub pinned : FinMap nat_cmp ℕ
  pub blocks : FinMap nat_cmp BlockUse
  pub serials : List ℕ

-- nothing is made yet: each register, static and board index is null or empty, and no caller has made an
-- object
abbrev pub start_of : Numbers → State
start_of n = record {
  objects = empty;
  handles = empty;
  weak = empty;
  registers = replicate n.callers (replicate REGISTERS None);
  handle_registers = replicate n.callers (replicate REGISTERS None);
  statics = replicate REGISTERS None;
  board = replicate REGISTERS None;
  queue = [];
  pinned = empty;
  blocks = empty;
  serials = replicate n.callers 0;
}

-- what a caller's object register references, or null
abbrev pub register_of : State → ℕ → ℕ → Option Id
register_of s caller d = slice_index_or (slice_index_or s.registers caller []) d None

-- what a caller's handle register has: a slot, or nothing
abbrev pub handle_register_of : State → ℕ → ℕ → Option Slot
handle_register_of s caller d = slice_index_or (slice_index_or s.handle_registers caller []) d None

-- what a static references
abbrev pub static_of : State → ℕ → Option Id
static_of s k = slice_index_or s.statics k None

-- the slot at a board index
abbrev pub board_of : State → ℕ → Option Slot
board_of s k = slice_index_or s.board k None

-- the serial of the last object that a caller made, 0 where it made none
abbrev pub last_serial : State → ℕ → ℕ
last_serial s caller = slice_index s.serials caller

-- the object with an identity. Each identity that a register, static, field or handle has is that of an
-- object.
abbrev pub object_by_id : State → Id → Object Id
object_by_id s id =
    unwrap_or (get s.objects id.0) (record { fields = []; value = 0; generation = 0; registered = false })

-- the field of an object: an identity, or null
abbrev pub field_of : {N : Type 0} → Object N → ℕ → Option N
field_of object i = slice_index_or object.fields i None

-- the handle in a slot, if the slot is live
abbrev pub handle_at : State → Slot → Option (Handle Id)
handle_at s slot = get s.handles slot.0

-- what a slot of the weak table attaches: a value to its key, or nothing where it is idle, as a dependent
-- handle does (.NET's ConditionalWeakTable has its entries in dependent handles)
abbrev pub weak_handle : {N : Type 0} → Option (WeakEntry N) → Handle N
weak_handle None = record { kind = Dependent; target = None; extra = secondary None }
weak_handle (Some e) = record { kind = Dependent; target = Some e.key; extra = secondary e.value }

-- the row of a slot: the handle in it, or what the weak table attaches by it
abbrev pub row_of : State → ℕ → Option (Handle Id)
row_of s slot = option_or (get s.handles slot) (option_map weak_handle (get s.weak slot))

-- the use of a block, if it has one
abbrev pub use_of : State → ℕ → Option BlockUse
use_of s block = get s.blocks block

-- the size of an object in cells: its fields and three more
abbrev pub size_of : {N : Type 0} → Object N → ℕ
size_of object = length object.fields + HEADER

-- the cells that all objects take together, reachable or not
abbrev pub total_size : State → ℕ
total_size s = sum_by size_of (values s.objects)

-- the number of blocks that have a use
abbrev pub given_of : State → ℕ
given_of s = len s.blocks

-- the block of a slot, and the first slot of a block (blocks are this project's own, after CoreCLR's segments
-- in outline)
abbrev pub block_of : Slot → ℕ
block_of slot = slot.0 / ROWS

abbrev pub first_slot : ℕ → Slot
first_slot block = record { 0 = block * ROWS }

-- a free slot of a kind: it holds no handle, the weak table does not hold it, and its block has handles of
-- the kind
pub record IsFree (s : State) (kind : Kind) (slot : Slot) : Type 0 where
  pub no_handle : handle_at s slot ≡ None
  pub not_weak : get s.weak slot.0 ≡ None
  pub of_kind : use_of s (block_of slot) ≡ Some (handles_of kind)

-- a block of a kind whose slots are all free
abbrev pub IsAllFree : State → Kind → ℕ → Type 0
IsAllFree s kind block = (slot : Slot) → block_of slot ≡ block → IsFree s kind slot

-- an identity, of a caller and a serial, and the two that it is of
abbrev pub identity_of : ℕ → ℕ → Id
identity_of caller serial = record { 0 = caller * 2 ^ 32 + serial }

-- the state with another value in one part
abbrev pub with_register : State → ℕ → ℕ → Option Id → State
with_register s caller d v =
    let row = slice_index_or s.registers caller [] in
    record s { registers = slice_set s.registers caller (slice_set row d v) }

abbrev pub with_handle_register : State → ℕ → ℕ → Option Slot → State
with_handle_register s caller d v =
    let row = slice_index_or s.handle_registers caller [] in
    record s { handle_registers = slice_set s.handle_registers caller (slice_set row d v) }

abbrev pub with_static : State → ℕ → Option Id → State
with_static s k v = record s { statics = slice_set s.statics k v }

abbrev pub with_board : State → ℕ → Option Slot → State
with_board s k v = record s { board = slice_set s.board k v }

abbrev pub with_object : State → Id → Object Id → State
with_object s id object = record s { objects = insert s.objects id.0 object }

abbrev pub with_handle : State → Slot → Handle Id → State
with_handle s slot handle = record s { handles = insert s.handles slot.0 handle }

abbrev pub without_handle : State → Slot → State
without_handle s slot = record s { handles = remove s.handles slot.0 }

abbrev pub with_weak : State → Slot → Option (WeakEntry Id) → State
with_weak s slot entry = record s { weak = insert s.weak slot.0 entry }

abbrev pub with_use : State → ℕ → BlockUse → State
with_use s block given = record s { blocks = insert s.blocks block given }

abbrev pub without_use : State → ℕ → State
without_use s block = record s { blocks = remove s.blocks block }

abbrev pub with_queue : State → List Id → State
with_queue s queue = record s { queue = queue }

abbrev pub with_address : State → Id → ℕ → State
with_address s id p = record s { pinned = insert s.pinned id.0 p }

abbrev pub with_serial : State → ℕ → ℕ → State
with_serial s caller serial = record s { serials = slice_set s.serials caller serial }
