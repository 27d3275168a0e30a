-- What a host's calls keep, whatever they are and in whatever order. Each is the contract of a function of
-- this crate.
use Rattle.std.specs.Prelude.{◌≡◌, ◌≢◌, ◌⊎◌, ◌↔◌, suc, ◌+◌, ◌*◌, ◌^◌, ◌<◌, ℕ, Bool, List, [], ◌∷◌, length, map, slice_index, None, Some, Result, Ok, IsSome, replicate}
use Rattle.std.specs.FinMap.{get}
use Rattle.hd_model.specs.{declared.command.Cmd.Cmd, declared.data.Id.Id, declared.data.Kind.Kind, declared.data.Reply.Reply, declared.data.Report.Report, declared.data.Slot.Slot, declared.limits.TheConstants.REGISTERS, declared.limits.TheConstants.ROWS}
use Rattle.hd_model.specs.declared.command.Cmd.TheVariants as cmd
use Rattle.hd_model.specs.declared.data.Reply.TheVariants as reply
use Rattle.hd_model.specs.State.{Handle as Held, block_of, handle_at, register_of, start_of, static_of}
use Rattle.hd_store.specs.{Offers.HasLimits, Replies.removed_reply, Spare.IsSpare}
use Rattle.hd_host.specs.declared.fault.Fault.{Fault}
use Rattle.hd_host.specs.declared.fault.Fault.TheVariants as fault
use Rattle.hd_host.specs.declared.handle.Handle.{Handle}
use Rattle.hd_host.specs.Handles.{IsOf, IsStale}
use Rattle.hd_host.specs.Turns.{HostTurn, RowCommand, TriesRow}
use Rattle.hd_host.specs.View.{HostView, IsAsItWas}
use Rattle.hd_hostlaws.specs.Calls.{Call, Calls, Does, DoesOn, DoesPlainly, HandleCall, collect, free, object_make, on_handle, plain, returned, returned_by, set, table_set}

-- a host that was opened, to which nothing was done
pub record IsFirst (v : HostView) : Type 0 where
  pub limits : HasLimits v.machine.numbers
  pub state : v.machine.state ≡ start_of v.machine.numbers
  pub stamps : v.stamps ≡ replicate (ROWS * (v.machine.numbers.blocks + 1)) 0

-- a host that calls have left since it was opened
pub record IsReached (v : HostView) : Type 0 where
  pub opened : HostView
  pub first : IsFirst opened
  pub calls : List Call
  pub came : Calls opened calls v

-- Each call is a turn of the end that has all contexts: one step of the machine, a row of them, a handle that
-- is freed, a step of a host alone, or nothing.
abbrev pub EachCallIsATurn : Type 0
EachCallIsATurn = (call : Call) (u w : HostView) → Does call u w → HostTurn u.machine.numbers.callers 0 u w

-- A call that returns a fault leaves the host as it was.
abbrev pub FaultsChangeNothing : Type 0
FaultsChangeNothing =
    (call : Call) (u w : HostView) (f : Fault) → Does call u w → returned_by call ≡ Some f → IsAsItWas u w

-- A call on a handle returns that it is stale exactly where it is, and the host is as it was.
abbrev pub StaleIsExact : Type 0
StaleIsExact = (handle : Handle) (call : HandleCall) (u w : HostView) → DoesOn handle call u w
    → ((returned call ≡ Some fault.Stale) ↔ IsStale u handle) × (IsStale u handle → IsAsItWas u w)

-- A handle that was freed is refused by every later call of that host, whatever came between.
abbrev pub FreedIsRefused : Type 0
FreedIsRefused =
    (u v w x : HostView) (handle : Handle) (calls : List Call) (call : HandleCall) → IsReached u
    → DoesOn handle (free (Ok tt)) u v → Calls v calls w → DoesOn handle call w x
    → (returned call ≡ Some fault.Stale) × IsAsItWas w x

-- a call frees a handle, or sets it
pub data FreesOrSets (handle : Handle) : Call → Type 0 where
  freeing : FreesOrSets handle (on_handle handle (free (Ok tt)))
  setting : (context src : ℕ) → FreesOrSets handle (on_handle handle (set context src (Ok tt)))

-- it is a collection that was done
pub data Collected : Call → Type 0 where
  collected : (n : ℕ) (report : Report) → Collected (plain (collect n (Ok report)))

-- none of these calls is such a one, and some one is
abbrev pub NoneOf : (Call → Type 0) → List Call → Type 0
NoneOf P [] = Unit {0}
NoneOf P (call ∷ calls) = (P call → ⊥) × NoneOf P calls

abbrev pub SomeOf : (Call → Type 0) → List Call → Type 0
SomeOf P [] = ⊥
SomeOf P (call ∷ calls) = P call ⊎ SomeOf P calls

-- a handle is live in the slot that it had, of the kind that it had, and its target is what it was, or null
-- after a collection
pub record NamesTheSame (handle : Handle) (slot : Slot) (was : Held Id) (calls : List Call) (w : HostView)
    : Type 0 where
  pub handle_is : IsOf w handle slot
  pub held : Held Id
  pub there : handle_at w.machine.state slot ≡ Some held
  pub kind : held.kind ≡ was.kind
  pub target : (held.target ≡ was.target) ⊎ ((held.target ≡ None) × SomeOf Collected calls)

-- A handle names the same object until it is freed, set, or cleared by a collection.
abbrev pub LiveNamesTheSame : Type 0
LiveNamesTheSame =
    (u w : HostView) (handle : Handle) (slot : Slot) (was : Held Id) (calls : List Call) → IsReached u
    → IsOf u handle slot → handle_at u.machine.state slot ≡ Some was → Calls u calls w
    → NoneOf (FreesOrSets handle) calls → NamesTheSame handle slot was calls w

-- A block that may be given back has no live handle.
abbrev pub SpareBlocksHaveNone : Type 0
SpareBlocksHaveNone = (v : HostView) (kind : Kind) (block : ℕ) (handle : Handle) (slot : Slot)
    → IsSpare v.machine.state kind block → IsOf v handle slot → block_of slot ≢ block

-- What a local, a static or a live handle of whatever kind references is an object that is there.
pub record WhatIsReferencedIsThere (v : HostView) : Type 0 where
  pub locals :
      (context d : ℕ) (id : Id) → register_of v.machine.state context d ≡ Some id
      → IsSome (get v.machine.state.objects id.0)
  pub statics :
      (k : ℕ) (id : Id) → static_of v.machine.state k ≡ Some id → IsSome (get v.machine.state.objects id.0)
  pub targets :
      (handle : Handle) (slot : Slot) (held : Held Id) (id : Id) → IsOf v handle slot
      → handle_at v.machine.state slot ≡ Some held → held.target ≡ Some id
      → IsSome (get v.machine.state.objects id.0)

abbrev pub ReferencedIsThere : Type 0
ReferencedIsThere = (v : HostView) → IsReached v → WhatIsReferencedIsThere v

-- ---- calls that are commands in a row

-- a command of a context, without a handle
abbrev pub in_context : ℕ → Cmd → RowCommand
in_context context command = record { context = context; slot = None; command = command }

-- An entry that is set is a `cremove` and a `cadd` in a row.
abbrev pub SettingIsARow : Type 0
SettingIsARow = (u w : HostView) (context key value : ℕ) (result : Result Bool Fault)
    → DoesPlainly (table_set context key value result) u w
    → TriesRow u (in_context context (cmd.CRemove key) ∷ in_context context (cmd.CAdd key value) ∷ [])
    (λ replaced. removed_reply replaced ∷ reply.Done ∷ []) w result

-- fields of an object, from an index on, get what these locals reference
abbrev pub sets_from : (context dst first : ℕ) → List ℕ → List RowCommand
sets_from context dst first [] = []
sets_from context dst first (s ∷ src) =
    in_context context (cmd.Set dst first s) ∷ sets_from context dst (suc first) src

abbrev pub making_row : (context dst value : ℕ) → Bool → List ℕ → List RowCommand
making_row context dst value fin src =
    in_context context (cmd.New dst (length src) fin) ∷ in_context context (cmd.Val dst value)
    ∷ sets_from context dst 0 src

abbrev pub making_replies : Id → List ℕ → List Reply
making_replies id src = reply.Object id ∷ reply.Done ∷ map (λ _. reply.Done) src

-- a local, and not that one
pub record IsOtherLocal (dst s : ℕ) : Type 0 where
  pub local : s < REGISTERS
  pub other : s ≢ dst

-- An object that is made with its value and its fields is a `new`, a `val` and a `set` for each field in a
-- row, where its local is none of those that the fields get.
abbrev pub MakingIsARow : Type 0
MakingIsARow =
    (u w : HostView) (context dst value : ℕ) (fin : Bool) (src : List ℕ) (result : Result Id Fault)
    → IsReached u → dst < REGISTERS → value < 2 ^ 64
    → ((i : ℕ) → i < length src → IsOtherLocal dst (slice_index src i))
    → DoesPlainly (object_make context dst value fin src result) u w
    → TriesRow u (making_row context dst value fin src) (λ id. making_replies id src) w result
