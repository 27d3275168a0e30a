-- Laws of steps and runs in the words of someone who holds handles. Each is the contract of a public function
-- of this crate.
use Rattle.std.specs.Prelude.{◌≡◌, ℕ, ◌+◌, ◌<◌, ◌≤◌, ◌^◌, Bool, true, false, List, length, sum_by, Some, None}
use Rattle.std.specs.FinMap.{get, values}
use Rattle.hd_model.specs.{declared.data.Id.Id, declared.data.Slot.Slot, declared.data.Entry.Entry, declared.command.Cmd.Cmd}
use Rattle.hd_model.specs.declared.data.Refusal.TheVariants as refusal
use Rattle.hd_model.specs.declared.data.Reply.TheVariants as reply
use Rattle.hd_model.specs.declared.limits.TheConstants.{HEAP}
use Rattle.hd_model.specs.declared.command.Cmd.TheVariants as cmd
use Rattle.hd_model.specs.State.{Numbers, State, Object, Handle, register_of, handle_register_of, last_serial, handle_at, identity_of}
use Rattle.hd_model.specs.Role.{pins}
use Rattle.hd_model.specs.Reach.{IsPinned}
use Rattle.hd_model.specs.PinnedAddresses.{IsFreeAddress}
use Rattle.hd_model.specs.Valid.{IsValid}
use Rattle.hd_model.specs.Step.{Step}
use Rattle.hd_model.specs.Run.{Run}
use Rattle.hd_model.specs.WellFormed.{IsWellFormed}
use Rattle.hd_model.specs.Laws.{Since}
use Rattle.hd_model.specs.CollectionLaws.{Joins}
use Rattle.hd_model.specs.UserLaws.{Does}

-- a handle register has a live handle that pins an object
pub record PinsBy (s : State) (caller h : ℕ) (id : Id) : Type 0 where
  pub slot : Slot
  pub handle : Handle Id
  pub has : handle_register_of s caller h ≡ Some slot
  pub live : handle_at s slot ≡ Some handle
  pub pins : pins handle ≡ true
  pub target : handle.target ≡ Some id

-- `addr` of an object that has a pinned address returns that address
abbrev pub AddressIsReturnedAgain : Type 0
AddressIsReturnedAgain =
    (n : Numbers) (s t : State) (e : Entry) (h : ℕ) (id : Id) (p : ℕ) → Step n s e t → e.cmd ≡ cmd.AddrOf h
    → PinsBy s e.caller h id → get s.pinned id.0 ≡ Some p → e.reply ≡ reply.Place p

-- an entry after which no handle pins an object
abbrev pub Unpins : Id → State → Entry → State → Type 0
Unpins id s e t = IsPinned (λ slot. get t.handles slot) id → ⊥

-- after `addr` of an object and entries that leave it pinned, by the same handle or another, `addr` by any
-- handle that pins it returns the same number, whatever was collected meanwhile
abbrev pub PinnedAddressIsReadBack : Type 0
PinnedAddressIsReadBack =
    (n : Numbers) (old now new : State) (first reading : Entry) (id : Id) (h k p : ℕ)
    → Since n (Unpins id) old first now → first.cmd ≡ cmd.AddrOf h → PinsBy old first.caller h id
    → first.reply ≡ reply.Place p → Step n now reading new → reading.cmd ≡ cmd.AddrOf k
    → PinsBy now reading.caller k id → reading.reply ≡ reply.Place p

-- a collection
abbrev pub IsCollection : State → Entry → State → Type 0
IsCollection s e t = (k : ℕ) × (e.cmd ≡ cmd.Collect k)

-- what states the generation of an object: `new`, which makes it with 0, and `gen`, which returns it
pub data GivesGeneration (s : State) (e : Entry) (id : Id) : ℕ → Type 0 where
  by_new : {d fields : ℕ} {fin : Bool} → e.cmd ≡ cmd.New d fields fin → e.reply ≡ reply.Object id
      → GivesGeneration s e id 0
  by_gen : {o g : ℕ} → e.cmd ≡ cmd.Gen o → register_of s e.caller o ≡ Some id
      → e.reply ≡ reply.Generation g → GivesGeneration s e id g

-- `gen` returns 0 of a new object, and what it returned before, until a collection
abbrev pub GenerationIsReadBack : Type 0
GenerationIsReadBack =
    (n : Numbers) (old now new : State) (written reading : Entry) (id : Id) (g p : ℕ)
    → Since n IsCollection old written now → GivesGeneration old written id g → Step n now reading new
    → reading.cmd ≡ cmd.Gen p → register_of now reading.caller p ≡ Some id
    → reading.reply ≡ reply.Generation g

-- and it returns the generation that the object has
abbrev pub GenReturnsTheGeneration : Type 0
GenReturnsTheGeneration =
    (n : Numbers) (s t : State) (e : Entry) (o : ℕ) (id : Id) (object : Object Id) → Step n s e t
    → e.cmd ≡ cmd.Gen o → register_of s e.caller o ≡ Some id → get s.objects id.0 ≡ Some object
    → e.reply ≡ reply.Generation object.generation

-- a collection in which an object joins the queue, and so is resurrected
pub record JoinsBy (id : Id) (s : State) (e : Entry) (t : State) : Type 0 where
  pub k : ℕ
  pub command : e.cmd ≡ cmd.Collect k
  pub joins : Joins s t id

-- a command on the object by a register that references it, done
pub record IsDoneTo (command : ℕ → Cmd) (id : Id) (s : State) (e : Entry) : Type 0 where
  pub o : ℕ
  pub command_is : e.cmd ≡ command o
  pub named : register_of s e.caller o ≡ Some id
  pub done : e.reply ≡ reply.Done

-- what writes the registration of an object: `suppress` and `reregister` of it, and a collection in which it
-- joins the queue
pub data WritesRegistration (id : Id) (s : State) (e : Entry) (t : State) : Type 0 where
  suppresses : IsDoneTo cmd.Suppress id s e → WritesRegistration id s e t
  reregisters : IsDoneTo cmd.Reregister id s e → WritesRegistration id s e t
  joins : JoinsBy id s e t → WritesRegistration id s e t

-- what it becomes: what `new` says, off by `suppress`, on by `reregister`, and off where the object joins the
-- queue, as a finalizer runs once
pub data GivesRegistration (id : Id) (s : State) (e : Entry) (t : State) : Bool → Type 0 where
  by_new : {d fields : ℕ} {fin : Bool} → e.cmd ≡ cmd.New d fields fin → e.reply ≡ reply.Object id
      → GivesRegistration id s e t fin
  by_suppress : IsDoneTo cmd.Suppress id s e → GivesRegistration id s e t false
  by_reregister : IsDoneTo cmd.Reregister id s e → GivesRegistration id s e t true
  by_joining : JoinsBy id s e t → GivesRegistration id s e t false

-- an object is registered as the last of these left it
abbrev pub RegistrationIsKept : Type 0
RegistrationIsKept =
    (n : Numbers) (old now : State) (written : Entry) (id : Id) (registered : Bool) (object : Object Id)
    → (since : Since n (WritesRegistration id) old written now)
    → GivesRegistration id old written since.after registered → get now.objects id.0 ≡ Some object
    → object.registered ≡ registered

-- an object that joined the queue joins it again only after a `reregister` of it
abbrev pub JoinsOnce : Type 0
JoinsOnce =
    (n : Numbers) (old now new : State) (first second : Entry) (id : Id)
    → (since : Since n (λ s e t. IsDoneTo cmd.Reregister id s e) old first now)
    → JoinsBy id old first since.after
    → Step n now second new → JoinsBy id now second new → ⊥

-- the cells that all objects of a state take together: one for each field, and three for each object
abbrev pub cells_taken : State → ℕ
cells_taken s = sum_by (λ (o : Object Id). length o.fields + 3) (values s.objects)

-- in every state of a run the heap is within its limit
abbrev pub HeapIsWithinItsLimit : Type 0
HeapIsWithinItsLimit = (n : Numbers) (journal : List Entry) (s : State) → Run n journal s
    → cells_taken s ≤ n.heap

-- what `new` of an object with some fields returns: the object where its cells fit within the limit, and else
-- that the heap is full
pub record NewReturns (n : Numbers) (s : State) (e : Entry) (fields : ℕ) : Type 0 where
  pub fits : cells_taken s + (fields + 3) ≤ n.heap
      → e.reply ≡ reply.Object (identity_of e.caller (last_serial s e.caller + 1))
  pub full : n.heap < cells_taken s + (fields + 3)
      → e.reply ≡ reply.Refused (refusal.HeapFull (cells_taken s) (fields + 3))

-- `new` is refused exactly where the heap would pass its limit
abbrev pub NewIsRefusedWhereFull : Type 0
NewIsRefusedWhereFull =
    (n : Numbers) (s t : State) (e : Entry) (d fields : ℕ) (fin : Bool) → Step n s e t
    → e.cmd ≡ cmd.New d fields fin → NewReturns n s e fields

-- what two commands need beside a known caller and a well formed state: `new` a serial, and `addr` of an
-- object without a pinned address a free address
pub record HasWay (n : Numbers) (s : State) (caller : ℕ) (c : Cmd) : Type 0 where
  pub serial : (d fields : ℕ) (fin : Bool) → c ≡ cmd.New d fields fin → last_serial s caller + 1 < 2 ^ 32
  pub address : (h : ℕ) (id : Id) → c ≡ cmd.AddrOf h → PinsBy s caller h id → get s.pinned id.0 ≡ None
      → (p : ℕ) × IsFreeAddress s id p

-- from a well formed state every valid command of a known caller has a step, where it has a way
abbrev pub EveryCommandHasAStep : Type 0
EveryCommandHasAStep =
    (n : Numbers) (s : State) (caller : ℕ) (c : Cmd) → IsWellFormed n s → caller < n.callers → IsValid c
    → HasWay n s caller c → Does n s caller c

-- no caller is ever stuck, as there is always a free address: in every state of a run whose heap limit a
-- script can have, every valid command of a known caller has a step, but for a `new` without a serial left
abbrev pub RunsAreNeverStuck : Type 0
RunsAreNeverStuck =
    (n : Numbers) (journal : List Entry) (s : State) (caller : ℕ) (c : Cmd) → Run n journal s
    → n.heap ≤ HEAP → caller < n.callers → IsValid c
    → ((d fields : ℕ) (fin : Bool) → c ≡ cmd.New d fields fin → last_serial s caller + 1 < 2 ^ 32)
    → Does n s caller c
