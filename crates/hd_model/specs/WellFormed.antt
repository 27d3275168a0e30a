-- What is true of every state that a run reaches.
use Rattle.std.specs.Prelude.{◌≡◌, ◌≢◌, ℕ, ◌<◌, ◌≤◌, ◌/◌, ◌%◌, ◌^◌, false, [], length, slice_index_or, Option, Some, None, IsSome, IfSome, Contains, AllPairs}
use Rattle.std.specs.FinMap.{get}
use Rattle.hd_model.specs.Data.{Id, Kind}
use Rattle.hd_model.specs.declared.data.Kind.TheVariants as kind
use Rattle.hd_model.specs.declared.limits.TheConstants.{REGISTERS, FIELDS, OLDEST, ROWS}
use Rattle.hd_model.specs.Kinds.{is_paired}
use Rattle.hd_model.specs.State.{Numbers, Object, Extra, nothing, strength, secondary, count, Handle, WeakEntry, State, handles_of, secondary_of, register_of, static_of, last_serial, field_of, use_of}

-- null, or the identity of an object of the state
abbrev pub Names : State → Option Id → Type 0
Names s o = IfSome o (λ id. IsSome (get s.objects id.0))

-- each caller has 16 registers of each sort and a last serial, and there are 16 statics and 16 board indexes
pub record HasShape (n : Numbers) (s : State) : Type 0 where
  pub registers : length s.registers ≡ n.callers
  pub each_registers : (c : ℕ) → c < n.callers → length (slice_index_or s.registers c []) ≡ REGISTERS
  pub handle_registers : length s.handle_registers ≡ n.callers
  pub each_handle_registers :
      (c : ℕ) → c < n.callers → length (slice_index_or s.handle_registers c []) ≡ REGISTERS
  pub statics : length s.statics ≡ REGISTERS
  pub board : length s.board ≡ REGISTERS
  pub serials : length s.serials ≡ n.callers

-- every identity in use is that of an object: in fields, registers, statics, targets and secondaries of
-- handles, the queue, the pinned addresses, and keys and values of the weak table
pub record HasSoundReferences (s : State) : Type 0 where
  pub fields :
      (id : ℕ) (object : Object Id) → get s.objects id ≡ Some object → (i : ℕ) → Names s (field_of object i)
  pub registers : (c d : ℕ) → Names s (register_of s c d)
  pub statics : (k : ℕ) → Names s (static_of s k)
  pub targets : (slot : ℕ) (handle : Handle Id) → get s.handles slot ≡ Some handle → Names s handle.target
  pub secondaries :
      (slot : ℕ) (handle : Handle Id) → get s.handles slot ≡ Some handle → Names s (secondary_of handle.extra)
  pub queue : (id : Id) → Contains s.queue id → Names s (Some id)
  pub pinned : (id : ℕ) → IsSome (get s.pinned id) → IsSome (get s.objects id)
  pub keys : (slot : ℕ) (e : WeakEntry Id) → get s.weak slot ≡ Some (Some e) → Names s (Some e.key)
  pub values : (slot : ℕ) (e : WeakEntry Id) → get s.weak slot ≡ Some (Some e) → Names s e.value

-- an object has at most 61 fields and a generation up to 2, and no object is queued twice
pub record HasObjects (s : State) : Type 0 where
  pub sizes : (id : ℕ) (object : Object Id) → get s.objects id ≡ Some object → length object.fields ≤ FIELDS
  pub generations :
      (id : ℕ) (object : Object Id) → get s.objects id ≡ Some object → object.generation ≤ OLDEST
  pub queued_once : AllPairs (λ x y. x ≢ y) s.queue

-- an identity has a serial from 1 to the last one of its caller. No caller passes 2^32 - 1.
pub record HasSerials (s : State) : Type 0 where
  pub from_one : (id : ℕ) → IsSome (get s.objects id) → 1 ≤ id % 2 ^ 32
  pub to_last : (id : ℕ) → IsSome (get s.objects id) → id % 2 ^ 32 ≤ last_serial s (id / 2 ^ 32)
  pub limit : (c : ℕ) → last_serial s c < 2 ^ 32

-- which extra a kind of handle has: a variable handle a strength, a dependent one a secondary, a ref-counted
-- one a count, and each other kind nothing
abbrev pub FitsKind : {N : Type 0} → Kind → Extra N → Type 0
FitsKind k nothing = is_paired k ≡ false
FitsKind k (strength given) = k ≡ kind.Variable
FitsKind k (secondary o) = k ≡ kind.Dependent
FitsKind k (count c) = k ≡ kind.Counted

-- a handle is in a block of its kind with the extra of its kind, a handle without a target has no secondary,
-- and a block in use has a number of the table's
pub record HasHandles (n : Numbers) (s : State) : Type 0 where
  pub kinds :
      (slot : ℕ) (handle : Handle Id) → get s.handles slot ≡ Some handle
      → use_of s (slot / ROWS) ≡ Some (handles_of handle.kind)
  pub extras :
      (slot : ℕ) (handle : Handle Id) → get s.handles slot ≡ Some handle → FitsKind handle.kind handle.extra
  pub dependents :
      (slot : ℕ) (handle : Handle Id) → get s.handles slot ≡ Some handle → handle.target ≡ None
      → secondary_of handle.extra ≡ None
  pub blocks : (block : ℕ) → IsSome (use_of s block) → (1 ≤ block) × (block ≤ n.blocks)

-- a slot of the weak table is in a block of dependent handles and holds no handle, and no key has two entries
pub record HasWeakTable (s : State) : Type 0 where
  pub kinds : (slot : ℕ) → IsSome (get s.weak slot)
      → use_of s (slot / ROWS) ≡ Some (handles_of kind.Dependent)
  pub apart : (slot : ℕ) → IsSome (get s.weak slot) → get s.handles slot ≡ None
  pub once :
      (a b : ℕ) (d e : WeakEntry Id) → get s.weak a ≡ Some (Some d) → get s.weak b ≡ Some (Some e)
      → d.key ≡ e.key → a ≡ b

-- a state that a run may reach
pub record IsWellFormed (n : Numbers) (s : State) : Type 0 where
  pub shape : HasShape n s
  pub names : HasSoundReferences s
  pub objects : HasObjects s
  pub serials : HasSerials s
  pub handles : HasHandles n s
  pub weak : HasWeakTable s
