-- What the calls of a host come to. Each is one command of the machine, from the state in which the first
-- handle register of its context has the slot of its handle.
use Rattle.std.specs.Prelude.{◌≡◌, ◌↔◌, ℕ, ◌+◌, ◌<◌, ◌≤◌, ◌^◌, true, false, slice_set, Option, Some, None, Bool, Result, MatchResult, ◌⊎◌}
use Rattle.hd_model.specs.{declared.data.Entry.Entry, declared.data.Kind.Kind, declared.data.Make.Make, declared.data.Refusal.Refusal, declared.data.Reply.Reply, declared.data.Slot.Slot, declared.command.Cmd.Cmd, Class.class_of, Aging.is_refused, Run.NoneAllFree, Run.NoneFree, Step.blocks_needed, Valid.takes_memory}
use Rattle.hd_model.specs.declared.class.Class.TheVariants as class
use Rattle.hd_model.specs.declared.command.Cmd.TheVariants as cmd
use Rattle.hd_model.specs.declared.data.Reply.TheVariants as reply
use Rattle.hd_model.specs.declared.data.Refusal.TheVariants as refusal
use Rattle.hd_model.specs.declared.data.Id.{Id}
use Rattle.hd_model.specs.declared.limits.TheConstants.{BLOCKS}
use Rattle.std.specs.FinMap.{get}
use Rattle.hd_model.specs.State.{Handle as Held, count_of, given_of, handle_at, last_serial, total_size}
use Rattle.hd_store.specs.{Offers.FitsHeap, Offers.asks_of, Offers.handle_slot, Offers.needs_slot, Store.Machine}
use Rattle.hd_host.specs.declared.fault.Fault.{Fault}
use Rattle.hd_host.specs.declared.fault.Fault.TheVariants as fault
use Rattle.hd_host.specs.declared.handle.Handle.{Handle}
use Rattle.hd_host.specs.{Changes.change_by, Handles.IsOf, Handles.IsStale, Handles.stamp_of}
use Rattle.hd_host.specs.Replies.{RepliesTo}
use Rattle.hd_host.specs.Steps.{HasStepped}
use Rattle.hd_host.specs.View.{HostView, IsAsItWas, state_in}

-- a command was done: it was one step, which was not refused, and so its reply is one of the command's; each
-- stamp is as it was; and what it gave or freed is what `last` says
pub record HasDone (old : HostView) (context : ℕ) (slot : Option Slot) (command : Cmd) (e : Entry)
    (new : HostView) : Type 0 where
  pub stepped : HasStepped old.machine context slot command new.machine e
  pub done : is_refused e.reply ≡ false
  pub replies : RepliesTo command e.reply
  pub stamps : new.stamps ≡ old.stamps
  pub last : new.last ≡ change_by e.slot e.grown

-- with a reply
pub record HasReplied (old : HostView) (context : ℕ) (slot : Option Slot) (command : Cmd) (answer : Reply)
    (new : HostView) : Type 0 where
  pub entry : Entry
  pub done : HasDone old context slot command entry new
  pub reply : entry.reply ≡ answer

-- the machine refuses a command
pub record IsRefused (v : HostView) (context : ℕ) (slot : Option Slot) (command : Cmd)
    (why : Refusal) : Type 0 where
  pub entry : Entry
  pub after : Machine
  pub stepped : HasStepped v.machine context slot command after entry
  pub reply : entry.reply ≡ reply.Refused why

-- a context whose serials are at their end makes no object, and the heap has no room for it
pub record IsFullAtEnd (v : HostView) (context : ℕ) (command : Cmd) (used size : ℕ) : Type 0 where
  pub fields : ℕ
  pub makes : class_of command ≡ class.MakesObject fields
  pub at_end : last_serial v.machine.state context + 1 ≡ 2 ^ 32
  pub used_is : used ≡ total_size v.machine.state
  pub size_is : size ≡ fields + 3
  pub full : v.machine.numbers.heap < used + size

-- what is at its end: a context whose serials are makes no object, where the heap has room for it; a count
-- that is does not rise; and the handle of a slot whose stamp is stays, since no stamp comes after
pub data IsAtEnd (v : HostView) (context : ℕ) (slot : Option Slot) : Cmd → Type 0 where
  no_serial : (d fields : ℕ) (fin : Bool) → last_serial v.machine.state context + 1 ≡ 2 ^ 32
      → total_size v.machine.state + (fields + 3) ≤ v.machine.numbers.heap
      → IsAtEnd v context slot (cmd.New d fields fin)
  no_count : (h : ℕ) (at : Slot) (held : Held Id) → slot ≡ Some at → handle_at v.machine.state at ≡ Some held
      → count_of held.extra + 1 ≡ 2 ^ 32 → IsAtEnd v context slot (cmd.HUp h)
  no_stamp : (h : ℕ) (at : Slot) → slot ≡ Some at → stamp_of v at + 1 ≡ 2 ^ 40
      → IsAtEnd v context slot (cmd.HFree h)

-- a command needs a slot, none of its kind is free, and enough blocks are without a use: the table may have to
-- grow for it
pub record GrowsTable (v : HostView) (context : ℕ) (command : Cmd) : Type 0 where
  pub kind : Kind
  pub asks : asks_of v.machine.state context command ≡ handle_slot kind
  pub none : NoneFree v.machine.state kind
  pub enough : given_of v.machine.state + blocks_needed kind ≤ v.machine.numbers.blocks

-- a command adds the first entry of the weak table of a host of more blocks than a script's, which takes its
-- memory with it
pub record AddsFirst (v : HostView) (context : ℕ) (command : Cmd) : Type 0 where
  pub large : BLOCKS < v.machine.numbers.blocks
  pub needs : needs_slot v.machine.state context command ≡ true
  pub unused : (slot : ℕ) → get v.machine.state.weak slot ≡ None

-- memory ran out: the command may take some, or may have to grow the table, or adds the first entry of the
-- weak table, and it has no other fault. The heap has room for what it makes, the machine does not refuse it,
-- and nothing that it needs is at its end.
pub record RanOutOfMemory (v : HostView) (context : ℕ) (slot : Option Slot) (command : Cmd) : Type 0 where
  pub cause : (takes_memory command ≡ true) ⊎ (GrowsTable v context command ⊎ AddsFirst v context command)
  pub fits : FitsHeap v.machine.numbers v.machine.state command
  pub allowed : (why : Refusal) → IsRefused v context slot command why → ⊥
  pub below_end : IsAtEnd v context slot command → ⊥

-- why a command fails, by its fault: the machine refuses it, so where too few blocks are without a use no
-- slot of the kind is free (`least`), or something is at its end, or memory ran out
abbrev pub FailsBy : HostView → ℕ → Option Slot → Cmd → Fault → Type 0
FailsBy v context slot command fault.Stale = IsRefused v context slot command refusal.NotLive
    ⊎ IsRefused v context slot command refusal.EmptyRegister
FailsBy v context slot command fault.WrongKind = IsRefused v context slot command refusal.WrongKind
FailsBy v context slot command fault.CountZero = IsRefused v context slot command refusal.CountZero
FailsBy v context slot command fault.Null = IsRefused v context slot command refusal.Null
FailsBy v context slot command fault.NoField = IsRefused v context slot command refusal.BadField
FailsBy v context slot command fault.Present = IsRefused v context slot command refusal.Present
FailsBy v context slot command (fault.HeapFull used size) =
    IsRefused v context slot command (refusal.HeapFull used size) ⊎ IsFullAtEnd v context command used size
FailsBy v context slot command (fault.TableFull given) =
    IsRefused v context slot command (refusal.TableFull given)
FailsBy v context slot command fault.Exhausted = IsAtEnd v context slot command
FailsBy v context slot command fault.Memory = RanOutOfMemory v context slot command

-- a command by a handle was done with the slot of the handle
pub record RepliesOf (old : HostView) (context : ℕ) (handle : Handle) (command : Cmd) (answer : Reply)
    (new : HostView) : Type 0 where
  pub slot : Slot
  pub handle_is : IsOf old handle slot
  pub replied : HasReplied old context (Some slot) command answer new

-- it failed with the slot of the handle, which is live
abbrev pub FailsWith : HostView → ℕ → Handle → Cmd → Fault → Type 0
FailsWith v context handle command f =
    (slot : Slot) × IsOf v handle slot × FailsBy v context (Some slot) command f

-- or it failed: the handle is stale, or it is that of a live slot and the command fails with that
abbrev pub FailsOf : HostView → ℕ → Handle → Cmd → Fault → Type 0
FailsOf v context handle command fault.Stale = IsStale v handle
FailsOf v context handle command fault.WrongKind = FailsWith v context handle command fault.WrongKind
FailsOf v context handle command fault.CountZero = FailsWith v context handle command fault.CountZero
FailsOf v context handle command fault.Null = FailsWith v context handle command fault.Null
FailsOf v context handle command fault.NoField = FailsWith v context handle command fault.NoField
FailsOf v context handle command fault.Present = FailsWith v context handle command fault.Present
FailsOf v context handle command (fault.HeapFull used size) =
    FailsWith v context handle command (fault.HeapFull used size)
FailsOf v context handle command (fault.TableFull given) =
    FailsWith v context handle command (fault.TableFull given)
FailsOf v context handle command fault.Exhausted = FailsWith v context handle command fault.Exhausted
FailsOf v context handle command fault.Memory = FailsWith v context handle command fault.Memory

-- a command of a context was done, and its reply is that of what is returned; or it failed, and all is as it
-- was
abbrev pub Tries : {T : Type 0} → HostView → ℕ → Cmd → (T → Reply) → HostView → Result T Fault → Type 0
Tries old context command reply_of new result =
    MatchResult result (λ x. HasReplied old context None command (reply_of x) new)
    (λ fault. FailsBy old context None command fault × IsAsItWas old new)

-- the same of a command by a handle
abbrev pub TriesOf : {T : Type 0} → HostView → ℕ → Handle → Cmd → (T → Reply) → HostView → Result T Fault
    → Type 0
TriesOf old context handle command reply_of new result =
    MatchResult result (λ x. RepliesOf old context handle command (reply_of x) new)
    (λ fault. FailsOf old context handle command fault × IsAsItWas old new)

-- a handle was made: it is that of its slot
pub record MakesHandle (old : HostView) (context : ℕ) (make : Make) (t : ℕ) (new : HostView)
    (handle : Handle) : Type 0 where
  pub entry : Entry
  pub done : HasDone old context None (cmd.HNew 0 make t) entry new
  pub slot : Slot
  pub slot_is : entry.slot ≡ Some slot
  pub handle_is : IsOf new handle slot

-- an entry was added to the weak table
abbrev pub AddsEntry : HostView → ℕ → ℕ → ℕ → HostView → Type 0
AddsEntry old context key value new = HasReplied old context None (cmd.CAdd key value) reply.Done new

-- a handle was freed: the stamp of its slot rises by one, so that the handle is stale from then on
pub record FreesHandle (old : HostView) (handle : Handle) (new : HostView) : Type 0 where
  pub slot : Slot
  pub handle_is : IsOf old handle slot
  pub below_end : stamp_of old slot + 1 < 2 ^ 40
  pub entry : Entry
  pub stepped : HasStepped old.machine 0 (Some slot) (cmd.HFree 0) new.machine entry
  pub reply : entry.reply ≡ reply.Done
  pub stamps : new.stamps ≡ slice_set old.stamps slot.0 (stamp_of old slot + 1)
  pub last : new.last ≡ change_by entry.slot entry.grown

-- `trim` gave back a block, 1, or none, 0, exactly where no block of the kind has all its slots free
pub record Trims (old : HostView) (kind : Kind) (given : ℕ) (new : HostView) : Type 0 where
  pub replied : HasReplied old 0 None (cmd.Trim kind) (reply.Value given) new
  pub at_most_one : given ≤ 1
  pub none : (given ≡ 0) ↔ NoneAllFree (state_in old.machine) kind
