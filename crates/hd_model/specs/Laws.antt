-- Laws of the machine in its own words. Each is the contract of a public function of this crate.
use Rattle.std.specs.Prelude.{◌≡◌, ◌≢◌, ℕ, ◌+◌, ◌-◌, ◌<◌, ◌==◌, ◌&&◌, Bool, true, false, List, Option, Some, None, IsSome, is_some, if◌then◌else◌, option_and_then, option_map, count_by, sum_by, All}
use Rattle.std.specs.Option.{option_map_or}
use Rattle.std.specs.FinMap.{len}
use Rattle.hd_model.specs.Data.{Id, Slot, Strength, Make, Entry, Reply, Cmd}
use Rattle.hd_model.specs.declared.data.Make.TheVariants as make
use Rattle.hd_model.specs.declared.data.Refusal.TheVariants as refusal
use Rattle.hd_model.specs.declared.data.Reply.TheVariants as reply
use Rattle.hd_model.specs.declared.command.Cmd.TheVariants as cmd
use Rattle.hd_model.specs.State.{Numbers, State, Extra, Handle, strength, secondary_of, register_of, handle_register_of, board_of, handle_at}
use Rattle.hd_model.specs.Command.{load_reply, made_extra}
use Rattle.hd_model.specs.Touched.{touched_by, Untouched}
use Rattle.hd_model.specs.Step.{Step}
use Rattle.hd_model.specs.Run.{Chain, Run, SoloRun, part_of, commands_of}
use Rattle.hd_model.specs.Aging.{is_refused, AgedRun}
use Rattle.hd_model.specs.Text.{text_of}
use Rattle.hd_model.specs.WellFormed.{IsWellFormed}

-- from one state, an entry leaves at most one state
abbrev pub OneStateAfter : Type 0
OneStateAfter = (n : Numbers) (s t u : State) (e : Entry) → Step n s e t → Step n s e u → t ≡ u

-- a step leads from a well formed state to a well formed one
abbrev pub StepsKeepWellFormed : Type 0
StepsKeepWellFormed =
    (n : Numbers) (s t : State) (e : Entry) → IsWellFormed n s → Step n s e t → IsWellFormed n t

-- every state that a run reaches is well formed
abbrev pub RunsAreWellFormed : Type 0
RunsAreWellFormed = (n : Numbers) (journal : List Entry) (s : State) → Run n journal s → IsWellFormed n s

-- a step changes no part of the state that its command does not touch
abbrev pub UntouchedStays : Type 0
UntouchedStays = (n : Numbers) (s t : State) (e : Entry) → Step n s e t → Untouched (touched_by e.cmd) s t

-- a run with the ages of the clumps is a run
abbrev pub AgedRunsAreRuns : Type 0
AgedRunsAreRuns =
    (n : Numbers) (journal : List Entry) (s : State) (ages : List ℕ)
    → AgedRun n journal s ages → Run n journal s

-- every run has its ages
abbrev pub RunsHaveAges : Type 0
RunsHaveAges =
    (n : Numbers) (journal : List Entry) (s : State)
    → Run n journal s → (ages : List ℕ) × AgedRun n journal s ages

-- whether a reply is that a command was done
abbrev pub is_done : Reply → Bool
is_done reply.Done = true
is_done (reply.Object id) = false
is_done reply.Nothing = false
is_done (reply.Value v) = false
is_done (reply.Generation g) = false
is_done (reply.Place p) = false
is_done (reply.Report r) = false
is_done reply.NoneQueued = false
is_done reply.Absent = false
is_done (reply.Chain from edges) = false
is_done reply.Unrooted = false
is_done (reply.Refused r) = false

-- the object that a reply references
abbrev pub object_returned : Reply → Option Id
object_returned reply.Done = None
object_returned (reply.Object id) = Some id
object_returned reply.Nothing = None
object_returned (reply.Value v) = None
object_returned (reply.Generation g) = None
object_returned (reply.Place p) = None
object_returned (reply.Report r) = None
object_returned reply.NoneQueued = None
object_returned reply.Absent = None
object_returned (reply.Chain from edges) = None
object_returned reply.Unrooted = None
object_returned (reply.Refused r) = None

-- the number of objects that a collection removed, by its reply
abbrev pub removed_in : Reply → ℕ
removed_in reply.Done = 0
removed_in (reply.Object id) = 0
removed_in reply.Nothing = 0
removed_in (reply.Value v) = 0
removed_in (reply.Generation g) = 0
removed_in (reply.Place p) = 0
removed_in (reply.Report r) = r.removed
removed_in reply.NoneQueued = 0
removed_in reply.Absent = 0
removed_in (reply.Chain from edges) = 0
removed_in reply.Unrooted = 0
removed_in (reply.Refused r) = 0

-- whether a command with its reply made a handle: an `hnew` that was done
abbrev pub makes_handle : Cmd → Reply → Bool
makes_handle cmd reply = (touched_by cmd).makes_handle && is_done reply

-- whether it freed a handle: an `hfree` that was done
abbrev pub frees_handle : Cmd → Reply → Bool
frees_handle cmd reply = (touched_by cmd).frees_handle && is_done reply

-- whether it made an object: a `new` that returned one
abbrev pub makes_object : Cmd → Reply → Bool
makes_object cmd reply = (touched_by cmd).makes_object && is_some (object_returned reply)

-- the number of entries of a journal whose command and reply pass a test
abbrev pub count_entries : (Cmd → Reply → Bool) → List Entry → ℕ
count_entries test journal = count_by (λ (e : Entry). test e.cmd e.reply) journal

-- the live handles are the handles that were made, less those that were freed
abbrev pub HandlesAreMadeLessFreed : Type 0
HandlesAreMadeLessFreed =
    (n : Numbers) (journal : List Entry) (s : State) → Run n journal s
    → len s.handles + count_entries frees_handle journal ≡ count_entries makes_handle journal

-- the objects are those that were made, less those that collections removed
abbrev pub ObjectsAreMadeLessRemoved : Type 0
ObjectsAreMadeLessRemoved =
    (n : Numbers) (journal : List Entry) (s : State) → Run n journal s
    → len s.objects + sum_by (λ (e : Entry). removed_in e.reply) journal ≡ count_entries makes_object journal

-- an entry `written` from a well formed state, and then entries none of which writes what the law is about
pub record Since (n : Numbers) (Writes : State → Entry → State → Type 0) (old : State)
    (written : Entry) (now : State) : Type 0 where
  pub well_formed : IsWellFormed n old
  pub after : State
  pub first : Step n old written after
  pub others : List Entry
  pub rest : Chain (λ s e t. Step n s e t × (Writes s e t → ⊥)) after others now

-- what writes a field of an object: a done `set` of it, by a register that references the object
pub record WritesField (id : Id) (i : ℕ) (s : State) (e : Entry) (t : State) : Type 0 where
  pub o : ℕ
  pub v : ℕ
  pub command : e.cmd ≡ cmd.Set o i v
  pub named : register_of s e.caller o ≡ Some id
  pub done : e.reply ≡ reply.Done

-- what writes the value of an object: a done `val` of it
pub record WritesValue (id : Id) (s : State) (e : Entry) (t : State) : Type 0 where
  pub o : ℕ
  pub v : ℕ
  pub command : e.cmd ≡ cmd.Val o v
  pub named : register_of s e.caller o ≡ Some id
  pub done : e.reply ≡ reply.Done

-- after a done `set` of a field and entries that do not write it, `get` returns what was stored. No
-- collection changes a field.
abbrev pub FieldIsReadBack : Type 0
FieldIsReadBack =
    (n : Numbers) (old now new : State) (written reading : Entry) (id : Id) (o i v d p : ℕ)
    → Since n (WritesField id i) old written now → written.cmd ≡ cmd.Set o i v → written.reply ≡ reply.Done
    → register_of old written.caller o ≡ Some id → Step n now reading new → reading.cmd ≡ cmd.Get d p i
    → register_of now reading.caller p ≡ Some id → reading.reply
    ≡ load_reply (register_of old written.caller v)

-- after a done `val` and entries that do not write the value, `read` returns the number
abbrev pub ValueIsReadBack : Type 0
ValueIsReadBack =
    (n : Numbers) (old now new : State) (written reading : Entry) (id : Id) (o v p : ℕ)
    → Since n (WritesValue id) old written now → written.cmd ≡ cmd.Val o v → written.reply ≡ reply.Done
    → register_of old written.caller o ≡ Some id → Step n now reading new → reading.cmd ≡ cmd.Read p
    → register_of now reading.caller p ≡ Some id → reading.reply ≡ reply.Value v

-- a field of a new object is null until it is written
abbrev pub NewFieldIsNull : Type 0
NewFieldIsNull =
    (n : Numbers) (old now new : State) (written reading : Entry) (id : Id) (d fields : ℕ) (fin : Bool)
    (i r p : ℕ)
    → i < fields → Since n (WritesField id i) old written now → written.cmd ≡ cmd.New d fields fin
    → written.reply ≡ reply.Object id → Step n now reading new → reading.cmd ≡ cmd.Get r p i
    → register_of now reading.caller p ≡ Some id → reading.reply ≡ reply.Nothing

-- the value of a new object is 0 until it is written
abbrev pub NewValueIsZero : Type 0
NewValueIsZero =
    (n : Numbers) (old now new : State) (written reading : Entry) (id : Id) (d fields : ℕ) (fin : Bool)
    (p : ℕ)
    → Since n (WritesValue id) old written now → written.cmd ≡ cmd.New d fields fin
    → written.reply ≡ reply.Object id
    → Step n now reading new → reading.cmd ≡ cmd.Read p → register_of now reading.caller p ≡ Some id
    → reading.reply ≡ reply.Value 0

-- what writes a static: `sput` of it, by whatever caller
abbrev pub WritesStatic : ℕ → State → Entry → State → Type 0
WritesStatic k s e t = (touched_by e.cmd).static ≡ Some k

-- after `sput` and entries that do not write the static, `sget` returns what was stored
abbrev pub StaticIsReadBack : Type 0
StaticIsReadBack =
    (n : Numbers) (old now new : State) (written reading : Entry) (k r d : ℕ)
    → Since n (WritesStatic k) old written now → written.cmd ≡ cmd.SPut k r
    → Step n now reading new → reading.cmd ≡ cmd.SGet d k
    → reading.reply ≡ load_reply (register_of old written.caller r)

-- what writes a board index: `hput` there, by whatever caller
abbrev pub WritesBoard : ℕ → State → Entry → State → Type 0
WritesBoard k s e t = (touched_by e.cmd).board ≡ Some k

-- after `hput` and entries that do not write its board index, `hpick` gives its register what was stored
-- there
abbrev pub BoardIsReadBack : Type 0
BoardIsReadBack =
    (n : Numbers) (old now new : State) (written reading : Entry) (k h d : ℕ)
    → Since n (WritesBoard k) old written now → written.cmd ≡ cmd.HPut k h
    → Step n now reading new → reading.cmd ≡ cmd.HPick d k
    → handle_register_of new reading.caller d ≡ handle_register_of old written.caller h

-- what writes an object register: a command of its caller with that register as its destination, if it is not
-- refused
pub record WritesRegister (caller d : ℕ) (s : State) (e : Entry) (t : State) : Type 0 where
  pub caller_is : e.caller ≡ caller
  pub register : (touched_by e.cmd).register ≡ Some d
  pub done : is_refused e.reply ≡ false

-- what such a command stores there: what the register that it copies references, and else what its reply does
abbrev pub put_in_register : State → ℕ → Cmd → Reply → Option Id
put_in_register s caller cmd reply =
    option_map_or (register_of s caller) (touched_by cmd).copied (object_returned reply)

-- an object register references what the last command that wrote it stored there
abbrev pub RegisterIsReadBack : Type 0
RegisterIsReadBack =
    (n : Numbers) (old now : State) (written : Entry) (caller d : ℕ)
    → (since : Since n (WritesRegister caller d) old written now)
    → WritesRegister caller d old written since.after
    → register_of now caller d ≡ put_in_register old caller written.cmd written.reply

-- what writes a handle register: a command of its caller that has it as its destination, if it is not refused
pub record WritesHandleRegister (caller d : ℕ) (s : State) (e : Entry) (t : State) : Type 0 where
  pub caller_is : e.caller ≡ caller
  pub register : (touched_by e.cmd).handle_register ≡ Some d
  pub done : is_refused e.reply ≡ false

-- what such a command stores there: the slot at the board index that it picks, nothing where it frees the
-- handle, and else the slot of its entry
abbrev pub put_in_handle_register : State → Cmd → Option Slot → Option Slot
put_in_handle_register s cmd slot =
    option_map_or (board_of s) (touched_by cmd).picked (if (touched_by cmd).frees_handle then None else slot)

-- a handle register has what the last command that wrote it stored there
abbrev pub HandleRegisterIsReadBack : Type 0
HandleRegisterIsReadBack =
    (n : Numbers) (old now : State) (written : Entry) (caller d : ℕ)
    → (since : Since n (WritesHandleRegister caller d) old written now)
    → WritesHandleRegister caller d old written since.after
    → handle_register_of now caller d ≡ put_in_handle_register old written.cmd written.slot

-- a command that was not refused, on the handle in a slot, by a handle register that has the slot
pub record IsDoneOn (command : ℕ → Cmd) (slot : Slot) (s : State) (e : Entry) : Type 0 where
  pub h : ℕ
  pub command_is : e.cmd ≡ command h
  pub has : handle_register_of s e.caller h ≡ Some slot
  pub done : is_refused e.reply ≡ false

-- the target of the handle in a slot, and its secondary: null where there is none
abbrev pub target_at : State → Slot → Option Id
target_at s slot = option_and_then (λ (handle : Handle Id). handle.target) (handle_at s slot)

abbrev pub secondary_at : State → Slot → Option Id
secondary_at s slot = option_and_then (λ (handle : Handle Id). secondary_of handle.extra) (handle_at s slot)

-- a collection that clears a target or a secondary: it was an object, and is null
pub record Clears (part : State → Option Id) (s : State) (e : Entry) (t : State) : Type 0 where
  pub n : ℕ
  pub command : e.cmd ≡ cmd.Collect n
  pub was : IsSome (part s)
  pub now : part t ≡ None

-- what writes the target of the handle in a slot: `hset` of it, `hfree` of it, and a collection that clears
-- it. No `hnew` takes a live slot.
pub data WritesTarget (slot : Slot) (s : State) (e : Entry) (t : State) : Type 0 where
  sets : (r : ℕ) → IsDoneOn (λ h. cmd.HSet h r) slot s e → WritesTarget slot s e t
  frees : IsDoneOn cmd.HFree slot s e → WritesTarget slot s e t
  clears : Clears (λ x. target_at x slot) s e t → WritesTarget slot s e t

-- what gives the handle in a slot a target: `hset`, and the `hnew` that makes it, each from an object
-- register
pub data GivesTarget (s : State) (e : Entry) (slot : Slot) : Option Id → Type 0 where
  by_set : {h t : ℕ} → e.cmd ≡ cmd.HSet h t → handle_register_of s e.caller h ≡ Some slot
      → GivesTarget s e slot (register_of s e.caller t)
  by_new : {d t : ℕ} {given : Make} → e.cmd ≡ cmd.HNew d given t → e.slot ≡ Some slot
      → GivesTarget s e slot (register_of s e.caller t)

-- after a done `hset` or `hnew` and entries that neither write the target nor free the handle, `hget` returns
-- what was stored. So a target that no collection clears is read back.
abbrev pub TargetIsReadBack : Type 0
TargetIsReadBack =
    (n : Numbers) (old now new : State) (written reading : Entry) (slot : Slot) (v : Option Id) (d h : ℕ)
    → Since n (WritesTarget slot) old written now → GivesTarget old written slot v
    → written.reply ≡ reply.Done → Step n now reading new → reading.cmd ≡ cmd.HGet d h
    → handle_register_of now reading.caller h ≡ Some slot → reading.reply ≡ load_reply v

-- what writes the secondary of the handle in a slot: `hsec` of it, `hset`, which makes it null, `hfree` of
-- it, and a collection that clears it
pub data WritesSecondary (slot : Slot) (s : State) (e : Entry) (t : State) : Type 0 where
  sets : (r : ℕ) → IsDoneOn (λ h. cmd.HSec h r) slot s e → WritesSecondary slot s e t
  sets_target : (r : ℕ) → IsDoneOn (λ h. cmd.HSet h r) slot s e → WritesSecondary slot s e t
  frees : IsDoneOn cmd.HFree slot s e → WritesSecondary slot s e t
  clears : Clears (λ x. secondary_at x slot) s e t → WritesSecondary slot s e t

-- what gives the handle in a slot a secondary: `hsec`, and the `hnew` that makes it
pub data GivesSecondary (s : State) (e : Entry) (slot : Slot) : Option Id → Type 0 where
  by_set : {h r : ℕ} → e.cmd ≡ cmd.HSec h r → handle_register_of s e.caller h ≡ Some slot
      → GivesSecondary s e slot (register_of s e.caller r)
  by_new : {d r t : ℕ} → e.cmd ≡ cmd.HNew d (make.Dependent r) t → e.slot ≡ Some slot
      → GivesSecondary s e slot (secondary_of (made_extra s e.caller (make.Dependent r) t))

-- after a done `hsec` or `hnew` and entries that neither write the secondary nor free the handle, `hdep`
-- returns what was stored
abbrev pub SecondaryIsReadBack : Type 0
SecondaryIsReadBack =
    (n : Numbers) (old now new : State) (written reading : Entry) (slot : Slot) (v : Option Id) (d h : ℕ)
    → Since n (WritesSecondary slot) old written now → GivesSecondary old written slot v
    → written.reply ≡ reply.Done → Step n now reading new → reading.cmd ≡ cmd.HDep d h
    → handle_register_of now reading.caller h ≡ Some slot → reading.reply ≡ load_reply v

-- the handle in a slot has an extra
abbrev pub HasExtra : State → Slot → Extra Id → Type 0
HasExtra s slot extra = option_map (λ (handle : Handle Id). handle.extra) (handle_at s slot) ≡ Some extra

-- what writes the strength of the handle in a slot: `hvar` of it and `hfree` of it
pub data WritesStrength (slot : Slot) (s : State) (e : Entry) (t : State) : Type 0 where
  sets : (given : Strength) → IsDoneOn (λ h. cmd.HVar h given) slot s e → WritesStrength slot s e t
  frees : IsDoneOn cmd.HFree slot s e → WritesStrength slot s e t

-- what gives the handle in a slot a strength: `hvar`, and the `hnew` that makes it
pub data GivesStrength (s : State) (e : Entry) (slot : Slot) : Strength → Type 0 where
  by_set : {h : ℕ} {given : Strength} → e.cmd ≡ cmd.HVar h given → handle_register_of s e.caller h ≡ Some slot
      → GivesStrength s e slot given
  by_new : {d t : ℕ} {given : Strength} → e.cmd ≡ cmd.HNew d (make.Variable given) t → e.slot ≡ Some slot
      → GivesStrength s e slot given

-- after a done `hvar` or `hnew` and entries that neither write the strength nor free the handle, the handle
-- has it
abbrev pub StrengthIsKept : Type 0
StrengthIsKept =
    (n : Numbers) (old now : State) (written : Entry) (slot : Slot) (given : Strength)
    → Since n (WritesStrength slot) old written now → GivesStrength old written slot given
    → written.reply ≡ reply.Done → HasExtra now slot (strength given)

-- what writes the count of the handle in a slot: `hup`, `hdown` and `hfree` of it
pub data WritesCount (slot : Slot) (s : State) (e : Entry) (t : State) : Type 0 where
  raises : IsDoneOn cmd.HUp slot s e → WritesCount slot s e t
  lowers : IsDoneOn cmd.HDown slot s e → WritesCount slot s e t
  frees : IsDoneOn cmd.HFree slot s e → WritesCount slot s e t

-- what gives the handle in a slot a count: `hup` and `hdown`, which return it, and the `hnew` that makes it
-- with 1
pub data GivesCount (s : State) (e : Entry) (slot : Slot) : ℕ → Type 0 where
  by_up : {h c : ℕ} → e.cmd ≡ cmd.HUp h → handle_register_of s e.caller h ≡ Some slot
      → e.reply ≡ reply.Value c → GivesCount s e slot c
  by_down : {h c : ℕ} → e.cmd ≡ cmd.HDown h → handle_register_of s e.caller h ≡ Some slot
      → e.reply ≡ reply.Value c → GivesCount s e slot c
  by_new : {d t : ℕ} → e.cmd ≡ cmd.HNew d make.Counted t → e.slot ≡ Some slot → e.reply ≡ reply.Done
      → GivesCount s e slot 1

-- what `hdown` returns on a count
abbrev pub lowering_reply : ℕ → Reply
lowering_reply c = if c == 0 then reply.Refused refusal.CountZero else reply.Value (c - 1)

-- what `hup` and `hdown` return on a count
pub record ReturnsCount (c h : ℕ) (e : Entry) : Type 0 where
  pub up : e.cmd ≡ cmd.HUp h → e.reply ≡ reply.Value (c + 1)
  pub down : e.cmd ≡ cmd.HDown h → e.reply ≡ lowering_reply c

-- after one of these and entries that neither write the count nor free the handle, `hup` and `hdown` count
-- from it
abbrev pub CountIsReadBack : Type 0
CountIsReadBack =
    (n : Numbers) (old now new : State) (written reading : Entry) (slot : Slot) (c h : ℕ)
    → Since n (WritesCount slot) old written now → GivesCount old written slot c → Step n now reading new
    → handle_register_of now reading.caller h ≡ Some slot → ReturnsCount c h reading

-- a done `hnew` makes a handle in a slot
pub record MakesIn (slot : Slot) (s : State) (e : Entry) (t : State) : Type 0 where
  pub makes : makes_handle e.cmd e.reply ≡ true
  pub given : e.slot ≡ Some slot

-- after a done `hfree` and entries none of which makes a handle in the slot, each command on the slot is
-- refused as not live
abbrev pub FreedIsNotLive : Type 0
FreedIsNotLive =
    (n : Numbers) (old now new : State) (written reading : Entry) (slot : Slot) (h : ℕ)
    → Since n (MakesIn slot) old written now → IsDoneOn cmd.HFree slot old written → Step n now reading new
    → (touched_by reading.cmd).handle ≡ Some h → handle_register_of now reading.caller h ≡ Some slot
    → reading.reply ≡ reply.Refused refusal.NotLive

-- two runs of the same lists of commands, each of one caller after another, and without `addr`, whose reply
-- alone a script does not determine
pub record AreAlike (n : Numbers) (j k : List Entry) (s t : State) : Type 0 where
  pub first : SoloRun n j s
  pub second : SoloRun n k t
  pub same_lists : (caller : ℕ) → commands_of (part_of j caller) ≡ commands_of (part_of k caller)
  pub no_address : All (λ (e : Entry). (h : ℕ) → e.cmd ≢ cmd.AddrOf h) j

-- such runs are equal
abbrev pub SoloRunsAreOne : Type 0
SoloRunsAreOne = (n : Numbers) (j k : List Entry) (s t : State) → AreAlike n j k s t → (j ≡ k) × (s ≡ t)

-- so the text is a function of the lists
abbrev pub SoloTextIsOne : Type 0
SoloTextIsOne =
    (n : Numbers) (j k : List Entry) (s t : State) → AreAlike n j k s t → text_of j s ≡ text_of k t
