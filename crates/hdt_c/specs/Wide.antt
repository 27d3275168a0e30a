-- What the exports come to that are more than one command, or none, and the arguments that they take.
use Rattle.std.specs.Prelude.{◌≡◌, ◌⊎◌, ◌+◌, ◌<◌, ◌≤◌, ◌^◌, ◌==◌, ℕ, Bool, List, [], length, map, slice_index, slice_index_or, Option, Some, None, if◌then◌else◌, option_map}
use Rattle.hd_model.specs.{declared.command.Cmd.Cmd, declared.data.Id.Id, declared.data.Slot.Slot, Command.load_reply}
use Rattle.hd_model.specs.State.{Handle, handle_at, last_serial, register_of, with_register}
use Rattle.hd_model.specs.declared.command.Cmd.TheVariants as cmd
use Rattle.hd_store.specs.declared.hosted.{Loaded.Loaded, ObjectInfo.ObjectInfo}
use Rattle.hd_store.specs.Hosted.{object_report, with_cleared}
use Rattle.hd_host.specs.declared.fault.Fault.{Fault}
use Rattle.hd_host.specs.declared.fault.Fault.TheVariants.{Stale}
use Rattle.hd_host.specs.{Calls.FailsBy, Calls.HasReplied, Calls.RepliesOf, Handles.IsOf, Handles.IsStale, View.HostView}
use Rattle.hd_host.specs.Wide.{FailsToAdd, MakesObject, ReadsLoaded, SetsEntry, id_number, with_state}
use Rattle.hdt_c.specs.Arguments.{number_of}
use Rattle.hdt_c.specs.Exports.{HasLocal}
use Rattle.hdt_c.specs.declared.parts.Object.{Object}
use Rattle.hdt_c.specs.declared.status.TheConstants.{NULL, OK}

-- ---- arguments

-- numbers of locals
abbrev pub AreLocals : List ℕ → Type 0
AreLocals src = (i : ℕ) → i < length src → slice_index src i < 16

-- the arguments of an object with its value and its fields, of a reference that is passed, and of locals that
-- are cleared
abbrev pub IsFilled : ℕ → ℕ → ℕ → List ℕ → ℕ → Type 0
IsFilled c dst flags src contexts =
    HasLocal c dst contexts × (flags < 2) × (length src ≤ 61) × AreLocals src

abbrev pub HasBoth : (to from dst src : ℕ) → ℕ → Type 0
HasBoth to from dst src contexts = HasLocal to dst contexts × HasLocal from src contexts

abbrev pub HasRange : (c first n : ℕ) → ℕ → Type 0
HasRange c first n contexts = (c < contexts) × (first + n ≤ 16)

abbrev pub HasContext : ℕ → ℕ → Type 0
HasContext c contexts = c < contexts

-- a context, and room for all its locals
abbrev pub HasAll : ℕ → ℕ → ℕ → Type 0
HasAll c room contexts = (c < contexts) × (room ≡ 16)

-- a mask of kinds, and whether those alone are asked for whose target is null
abbrev pub AreKinds : ℕ → ℕ → Type 0
AreKinds kinds cleared = (1 ≤ kinds) × (kinds < 128) × (cleared < 2)

-- ---- what calls come to

-- a command of a context replies with what was loaded, of which the number and the value are written, and one
-- on a handle does
abbrev pub LoadsValue : ℕ → Cmd → (dst id value : ℕ) → HostView → HostView → ℕ → Type 0
LoadsValue c command dst id value v w status =
    (l : Loaded) × HasReplied v c None command (load_reply l.id) w × ReadsLoaded c dst w l
    × (id ≡ number_of l.id) × (value ≡ l.value) × (status ≡ OK)

abbrev pub LoadsValueAt : ℕ → ℕ → Cmd → (dst id value : ℕ) → HostView → HostView → ℕ → Type 0
LoadsValueAt c handle command dst id value v w status =
    (l : Loaded) × RepliesOf v c (record { 0 = handle }) command (load_reply l.id) w × ReadsLoaded c dst w l
    × (id ≡ number_of l.id) × (value ≡ l.value) × (status ≡ OK)

-- an entry was set, as new or in place of another; or one of the two commands for it fails
abbrev pub Sets : (c key value : ℕ) → HostView → HostView → ℕ → Type 0
Sets c key value v w status = (replaced : Bool) × SetsEntry v c key value w replaced × (status ≡ OK)

abbrev pub FailsToSet : (c key value : ℕ) → HostView → Fault → Type 0
FailsToSet c key value v f = FailsBy v c None (cmd.CRemove key) f ⊎ FailsToAdd v c key value f

-- an object as C gets it
abbrev pub object_out : ObjectInfo → Object
object_out o = record {
  id = o.id.0;
  value = o.value;
  fields = o.fields;
  generation = o.generation;
  finalizable = if o.registered then 1 else 0;
}

-- what an object has is written, or a local is null and nothing is
abbrev pub IsTold : Option ObjectInfo → (old new : Object) → ℕ → Type 0
IsTold None old new status = (new ≡ old) × (status ≡ NULL)
IsTold (Some o) old new status = (new ≡ object_out o) × (status ≡ OK)

-- an object was made with its value and its fields, of which the number is written
abbrev pub Makes : (c dst flags value : ℕ) → List ℕ → (id : ℕ) → HostView → HostView → ℕ → Type 0
Makes c dst flags value src id v w status =
    (made : Id) × MakesObject v c dst value (flags == 1) src w made × (id ≡ made.0) × (status ≡ OK)

-- a reference was passed, of which the number is written
abbrev pub Passes : (to from dst src id : ℕ) → HostView → HostView → ℕ → Type 0
Passes to from dst src id v w status =
    let target = register_of v.machine.state from src in
    (w ≡ with_state v (with_register v.machine.state to dst target)) × (id ≡ number_of target) × (status ≡ OK)

-- locals were cleared
abbrev pub ClearsLocals : (c first n : ℕ) → HostView → HostView → ℕ → Type 0
ClearsLocals c first n v w status =
    (w ≡ with_state v (with_cleared v.machine.state c first n)) × (status ≡ OK)

-- what all locals reference is written
abbrev pub TellsLocals : (c : ℕ) (out : List ℕ) → HostView → HostView → ℕ → Type 0
TellsLocals c out v w status =
    (w ≡ v) × (out ≡ map id_number (slice_index_or v.machine.state.registers c [])) × (status ≡ OK)

-- so many objects a context may still make
abbrev pub HasLeft : (c objects : ℕ) → HostView → HostView → ℕ → Type 0
HasLeft c objects v w status =
    (w ≡ v) × (last_serial v.machine.state c + (objects + 1) ≡ 2 ^ 32) × (status ≡ OK)

-- what a handle references, or that it is stale
abbrev pub TellsTarget : (handle id : ℕ) → HostView → HostView → ℕ → Type 0
TellsTarget handle id v w status = (w ≡ v) × (status ≡ OK)
    × ((slot : Slot) × (target : Option Id) × IsOf v (record { 0 = handle }) slot
    × (option_map (λ (h : Handle Id). h.target) (handle_at v.machine.state slot) ≡ Some target)
    × (id ≡ number_of target))

abbrev pub FailsStale : ℕ → HostView → Fault → Type 0
FailsStale handle v f = (f ≡ Stale) × IsStale v (record { 0 = handle })

-- what a local references is written
abbrev pub TellsObject : (c local : ℕ) → (old new : Object) → HostView → HostView → ℕ → Type 0
TellsObject c local old new v w status = (w ≡ v)
    × IsTold (option_map (object_report v.machine.state) (register_of v.machine.state c local)) old new status
