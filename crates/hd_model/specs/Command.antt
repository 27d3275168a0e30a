-- What each command returns, and the state after it. These follow .NET's GCHandle (Alloc, Target, Free),
-- DependentHandle, GC (GetGeneration, SuppressFinalize, ReRegisterForFinalize) and plain loads and stores of
-- fields, statics and locals; texts, refusals and their order are this project's own.
use Rattle.std.specs.Prelude.{ℕ, ◌+◌, ◌-◌, ◌==◌, ◌&&◌, Bool, true, false, nat_lt, if◌then◌else◌, List, [], ◌∷◌, replicate, length, slice_set, Option, Some, None, is_some, option_and_then, option_map}
use Rattle.std.specs.Option.{option_map_or}
use Rattle.std.specs.List.{find}
use Rattle.std.specs.FinMap.{entries, get}
use Rattle.hd_model.specs.Data.{Id, Slot, Kind, Strength, Make, Refusal, Reply}
use Rattle.hd_model.specs.declared.data.Kind.TheVariants as kind
use Rattle.hd_model.specs.declared.data.Make.TheVariants as make
use Rattle.hd_model.specs.declared.data.Refusal.TheVariants as refusal
use Rattle.hd_model.specs.declared.data.Reply.TheVariants as reply
use Rattle.hd_model.specs.Kinds.{kind_of, is_kind}
use Rattle.hd_model.specs.State.{Numbers, Object, Extra, nothing, strength, secondary, count, Handle, WeakEntry, State, secondary_of, count_of, without_secondary, register_of, handle_register_of, static_of, board_of, last_serial, object_by_id, field_of, handle_at, with_weak, total_size, identity_of, with_register, with_handle_register, with_static, with_board, with_object, with_handle, without_handle, with_queue, with_address, with_serial}
use Rattle.hd_model.specs.Role.{pins}

-- the outcome of a command that the state decides: its reply, the slot that it gives or frees, and the state
-- after it
pub record Outcome : Type 0 where
  pub reply : Reply
  pub slot : Option Slot
  pub after : State

-- a command that gives and frees no slot
abbrev pub reply_with : Reply → State → Outcome
reply_with reply after = record { reply = reply; slot = None; after = after }

-- a refused command leaves the state as it was
abbrev pub refuses : Refusal → State → Outcome
refuses refusal s = reply_with (reply.Refused refusal) s

-- the reply of a load: the object, or null
abbrev pub load_reply : Option Id → Reply
load_reply None = reply.Nothing
load_reply (Some id) = reply.Object id

-- on the object in register o, which is refused where it is null
abbrev pub on_object : State → ℕ → ℕ → (Id → Outcome) → Outcome
on_object s caller o act = option_map_or act (register_of s caller o) (refuses refusal.Null s)

-- on field i of the object in register o, which is refused where the object has no such field
abbrev pub on_field : State → ℕ → ℕ → ℕ → (Id → Outcome) → Outcome
on_field s caller o i act =
    on_object s caller o
    (λ id. if nat_lt i (length (object_by_id s id).fields) then act id else refuses refusal.BadField s)

-- on the handle in handle register h, which is refused where the register is empty and where its slot is not
-- live
abbrev pub on_handle : State → ℕ → ℕ → (Slot → Handle Id → Outcome) → Outcome
on_handle s caller h act =
    option_map_or (λ slot. option_map_or (act slot) (handle_at s slot) (refuses refusal.NotLive s))
    (handle_register_of s caller h) (refuses refusal.EmptyRegister s)

-- what is done with a handle of a kind, which is refused where the handle is of another
abbrev pub on_kind : State → Kind → Handle Id → Outcome → Outcome
on_kind s wanted handle does =
    if is_kind handle.kind wanted then does else refuses refusal.WrongKind s

-- on such a handle, which is refused where it is of another kind
abbrev pub on_handle_of : State → ℕ → ℕ → Kind → (Slot → Handle Id → Outcome) → Outcome
on_handle_of s caller h wanted act =
    on_handle s caller h (λ slot handle. on_kind s wanted handle (act slot handle))

-- a new object: its fields are null and its value is 0
abbrev pub fresh_object : ℕ → Bool → Object Id
fresh_object fields fin =
    record { fields = replicate fields None; value = 0; generation = 0; registered = fin }

-- `new rD F`, `new rD F fin`: an object of generation 0 with F null fields and value 0 gets the caller's next
-- serial, unless the heap would pass its limit. With `fin` it is registered for finalization.
abbrev pub new_object : Numbers → State → ℕ → ℕ → ℕ → Bool → Outcome
new_object n s caller d fields fin =
    if nat_lt n.heap (total_size s + (fields + 3))
    then refuses (refusal.HeapFull (total_size s) (fields + 3)) s
    else (
    let serial = last_serial s caller + 1 in
    let id = identity_of caller serial in
    let made = with_serial (with_object s id (fresh_object fields fin)) caller serial in
    reply_with (reply.Object id) (with_register made caller d (Some id)))

-- `set rO i rV`: field i of rO gets what rV references
abbrev pub set_field : State → ℕ → ℕ → ℕ → ℕ → Outcome
set_field s caller o i v =
    on_field s caller o i (λ id.
    let object = object_by_id s id in
    reply_with reply.Done
    (with_object s id (record object { fields = slice_set object.fields i (register_of s caller v) })))

-- `get rD rO i`: rD gets what field i of rO references
abbrev pub get_field : State → ℕ → ℕ → ℕ → ℕ → Outcome
get_field s caller d o i =
    on_field s caller o i
    (λ id. let v = field_of (object_by_id s id) i in reply_with (load_reply v) (with_register s caller d v))

-- `val rO n`: the value of rO becomes n
abbrev pub set_value : State → ℕ → ℕ → ℕ → Outcome
set_value s caller o v =
    on_object s caller o
    (λ id. reply_with reply.Done (with_object s id (record (object_by_id s id) { value = v })))

-- `read rO`: the value of rO
abbrev pub read_value : State → ℕ → ℕ → Outcome
read_value s caller o = on_object s caller o (λ id. reply_with (reply.Value (object_by_id s id).value) s)

-- `copy rD rS`: rD gets what rS references
abbrev pub copy_register : State → ℕ → ℕ → ℕ → Outcome
copy_register s caller d r = reply_with reply.Done (with_register s caller d (register_of s caller r))

-- `drop rD`: rD is null
abbrev pub clear_register : State → ℕ → ℕ → Outcome
clear_register s caller d = reply_with reply.Done (with_register s caller d None)

-- `sput k rS`: static k gets what rS references
abbrev pub put_static : State → ℕ → ℕ → ℕ → Outcome
put_static s caller k r = reply_with reply.Done (with_static s k (register_of s caller r))

-- `sget rD k`: rD gets what static k references
abbrev pub get_static : State → ℕ → ℕ → ℕ → Outcome
get_static s caller d k = reply_with (load_reply (static_of s k)) (with_register s caller d (static_of s k))

-- `gen rS`: the generation of rS
abbrev pub read_generation : State → ℕ → ℕ → Outcome
read_generation s caller o =
    on_object s caller o (λ id. reply_with (reply.Generation (object_by_id s id).generation) s)

-- `suppress rS` and `reregister rS`: rS is no longer registered for finalization, or again
abbrev pub set_registered : State → ℕ → ℕ → Bool → Outcome
set_registered s caller o registered =
    on_object s caller o
    (λ id. reply_with reply.Done (with_object s id (record (object_by_id s id) { registered = registered })))

-- `final rD`: rD gets the first object of the finalization queue, which leaves it, or null where the queue is
-- empty (.NET's finalizer thread takes objects in turn; here a command does)
abbrev pub take_first : State → ℕ → ℕ → List Id → Outcome
take_first s caller d [] = reply_with reply.NoneQueued (with_register s caller d None)
take_first s caller d (id ∷ rest) =
    reply_with (reply.Object id) (with_register (with_queue s rest) caller d (Some id))

abbrev pub take_queued : State → ℕ → ℕ → Outcome
take_queued s caller d = take_first s caller d s.queue

-- Of each command on a handle, what it comes to for the handle in a live slot has a name of its own, `.._of`.

-- `hget rD hS`: rD gets the target, which is null where it was never set or is cleared
abbrev pub get_target_of : State → ℕ → ℕ → Slot → Handle Id → Outcome
get_target_of s caller d slot handle =
    reply_with (load_reply handle.target) (with_register s caller d handle.target)

abbrev pub get_target : State → ℕ → ℕ → ℕ → Outcome
get_target s caller d h = on_handle s caller h (get_target_of s caller d)

-- `hset hS rT`: the target becomes what rT references. A dependent handle may get null alone, and then its
-- secondary is null too (the setter of .NET's DependentHandle.Target takes null alone).
abbrev pub set_target_of : State → ℕ → ℕ → Slot → Handle Id → Outcome
set_target_of s caller t slot handle =
    let target = register_of s caller t in
    if is_kind handle.kind kind.Dependent && is_some target then refuses refusal.WrongKind s
    else reply_with reply.Done
    (with_handle s slot (record handle { target = target; extra = without_secondary handle.extra }))

abbrev pub set_target : State → ℕ → ℕ → ℕ → Outcome
set_target s caller h t = on_handle s caller h (set_target_of s caller t)

-- `hsec hS rS`: the secondary of a dependent handle, whose target is not null, becomes what rS references
-- (.NET's DependentHandle.Dependent)
abbrev pub set_secondary_of : State → ℕ → ℕ → Slot → Handle Id → Outcome
set_secondary_of s caller r slot handle =
    let after = with_handle s slot (record handle { extra = secondary (register_of s caller r) }) in
    on_kind s kind.Dependent handle
    (option_map_or (λ _. reply_with reply.Done after) handle.target (refuses refusal.Null s))

abbrev pub set_secondary : State → ℕ → ℕ → ℕ → Outcome
set_secondary s caller h r = on_handle s caller h (set_secondary_of s caller r)

-- `hdep rD hS`: rD gets the secondary of a dependent handle
abbrev pub get_secondary_of : State → ℕ → ℕ → Slot → Handle Id → Outcome
get_secondary_of s caller d slot handle =
    let v = secondary_of handle.extra in
    on_kind s kind.Dependent handle (reply_with (load_reply v) (with_register s caller d v))

abbrev pub get_secondary : State → ℕ → ℕ → ℕ → Outcome
get_secondary s caller d h = on_handle s caller h (get_secondary_of s caller d)

-- `hvar hS STRENGTH`: a variable handle gets the strength
abbrev pub set_strength_of : State → Strength → Slot → Handle Id → Outcome
set_strength_of s given slot handle =
    on_kind s kind.Variable handle
    (reply_with reply.Done (with_handle s slot (record handle { extra = strength given })))

abbrev pub set_strength : State → ℕ → ℕ → Strength → Outcome
set_strength s caller h given = on_handle s caller h (set_strength_of s given)

-- a ref-counted handle gets a count, which is returned
abbrev pub with_count : State → Slot → Handle Id → ℕ → Outcome
with_count s slot handle c = reply_with (reply.Value c)
    (with_handle s slot (record handle { extra = count c }))

-- `hup hS`: the count of a ref-counted handle rises by one (CoreCLR's ref-counted handles ask their object's
-- count; a count in the handle is this project's own)
abbrev pub raise_count_of : State → Slot → Handle Id → Outcome
raise_count_of s slot handle =
    on_kind s kind.Counted handle (with_count s slot handle (count_of handle.extra + 1))

abbrev pub raise_count : State → ℕ → ℕ → Outcome
raise_count s caller h = on_handle s caller h (raise_count_of s)

-- `hdown hS`: the count of a ref-counted handle falls by one, which is refused where it is 0
abbrev pub lower_count_of : State → Slot → Handle Id → Outcome
lower_count_of s slot handle =
    on_kind s kind.Counted handle
    (if count_of handle.extra == 0 then refuses refusal.CountZero s
    else with_count s slot handle (count_of handle.extra - 1))

abbrev pub lower_count : State → ℕ → ℕ → Outcome
lower_count s caller h = on_handle s caller h (lower_count_of s)

-- `hfree hS`: the handle is freed and hS is empty. Copies of the slot elsewhere stay.
abbrev pub free_handle_of : State → ℕ → ℕ → Slot → Handle Id → Outcome
free_handle_of s caller h slot handle = record {
  reply = reply.Done;
  slot = Some slot;
  after = with_handle_register (without_handle s slot) caller h None;
}

abbrev pub free_handle : State → ℕ → ℕ → Outcome
free_handle s caller h = on_handle s caller h (free_handle_of s caller h)

-- `hput k hS`: board index k gets the slot in hS
abbrev pub put_board : State → ℕ → ℕ → ℕ → Outcome
put_board s caller k h = reply_with reply.Done (with_board s k (handle_register_of s caller h))

-- `hpick hD k`: hD gets the slot at board index k
abbrev pub pick_board : State → ℕ → ℕ → ℕ → Outcome
pick_board s caller d k = reply_with reply.Done (with_handle_register s caller d (board_of s k))

-- `addr hS` with p as the address of the object that the handle pins: it becomes the object's pinned address
abbrev pub reply_address_of : State → ℕ → Slot → Handle Id → Outcome
reply_address_of s p slot handle =
    if pins handle then (
    option_map_or (λ id. reply_with (reply.Place p) (with_address s id p)) handle.target
    (refuses refusal.Null s))
    else refuses refusal.WrongKind s

abbrev pub reply_address : State → ℕ → ℕ → ℕ → Outcome
reply_address s caller h p = on_handle s caller h (reply_address_of s p)

-- `gcroot rS` with the reply that a search for rS has
abbrev pub reply_root : State → ℕ → ℕ → Reply → Outcome
reply_root s caller r reply = on_object s caller r (λ _. reply_with reply s)

-- the extra of a made handle. Without a target a dependent handle has no secondary either.
abbrev pub extra_by : (ℕ → Option Id) → Make → Option Id → Extra Id
extra_by registers make.Short target = nothing
extra_by registers make.Long target = nothing
extra_by registers make.Strong target = nothing
extra_by registers make.Pinned target = nothing
extra_by registers (make.Variable given) target = strength given
extra_by registers make.Counted target = count 1
extra_by registers (make.Dependent r) target = secondary (option_and_then (λ _. registers r) target)

abbrev pub made_extra : State → ℕ → Make → ℕ → Extra Id
made_extra s caller make t = extra_by (register_of s caller) make (register_of s caller t)

-- a made handle: its target is what rT references
abbrev pub made_handle : State → ℕ → Make → ℕ → Handle Id
made_handle s caller make t =
    record { kind = kind_of make; target = register_of s caller t; extra = made_extra s caller make t }

-- whether a slot of the weak table has an entry with a key, and whether it is idle
abbrev pub has_key : Id → Option (WeakEntry Id) → Bool
has_key key None = false
has_key key (Some e) = e.key.0 == key.0

abbrev pub is_idle : Option (WeakEntry Id) → Bool
is_idle None = true
is_idle (Some e) = false

-- the least slot of the weak table whose content passes a test
abbrev pub weak_slot_where : (Option (WeakEntry Id) → Bool) → State → Option Slot
weak_slot_where test s = option_map (λ p. record { 0 = p.0 }) (find (λ p. test p.1) (entries s.weak))

-- the slot with the entry of a key, and the least idle slot
abbrev pub slot_of_key : State → Id → Option Slot
slot_of_key s key = weak_slot_where (has_key key) s

abbrev pub idle_slot : State → Option Slot
idle_slot s = weak_slot_where is_idle s

-- the value of the entry in a slot of the weak table, or null where it is idle
abbrev pub entry_value : Option (WeakEntry Id) → Option Id
entry_value None = None
entry_value (Some e) = e.value

abbrev pub value_at : State → Slot → Option Id
value_at s slot = option_and_then entry_value (get s.weak slot.0)

-- what a `cadd` meets: it is refused, or it adds an entry with a key, in an idle slot of the weak table, or
-- in one that the table has yet to get
pub data Adding : Type 0 where
  is_refused : Refusal → Adding
  in_idle : Slot → Id → Adding
  in_new : Id → Adding

abbrev pub adding_key : State → Id → Adding
adding_key s key =
    option_map_or (λ _. is_refused refusal.Present)
    (slot_of_key s key) (option_map_or (λ slot. in_idle slot key) (idle_slot s) (in_new key))

-- `cadd rK rV`: refused where rK is null, and where the table has an entry with this key
-- (ConditionalWeakTable.Add throws for a null key and for a key that is present)
abbrev pub adding_of : State → ℕ → ℕ → Adding
adding_of s caller k = option_map_or (adding_key s) (register_of s caller k) (is_refused refusal.Null)

-- an entry of a key with what rV references as its value, in a slot
abbrev pub with_entry : State → State → ℕ → ℕ → Slot → Id → State
with_entry room s caller v slot key =
    with_weak room slot (Some (record { key = key; value = register_of s caller v }))

-- `cadd` in an idle slot
abbrev pub add_entry : State → ℕ → ℕ → Slot → Id → Outcome
add_entry s caller v slot key =
    record { reply = reply.Done; slot = Some slot; after = with_entry s s caller v slot key }

-- `cfind rD rK`: rD gets the value of the entry of rK, and is null where there is none
-- (ConditionalWeakTable.TryGetValue)
abbrev pub find_entry : State → ℕ → ℕ → ℕ → Outcome
find_entry s caller d k =
    on_object s caller k (λ key.
    option_map_or (λ slot. reply_with (load_reply (value_at s slot)) (with_register s caller d
    (value_at s slot))) (slot_of_key s key) (reply_with reply.Absent (with_register s caller d None)))

-- `cremove rK`: the entry of rK leaves the table, and its slot is idle (ConditionalWeakTable.Remove)
abbrev pub remove_entry : State → ℕ → ℕ → Outcome
remove_entry s caller k =
    on_object s caller k
    (λ key. option_map_or (λ slot. reply_with reply.Done (with_weak s slot None)) (slot_of_key s key)
    (reply_with reply.Absent s))
