-- The calls of a host, each with what it gets and what it returns, and what each comes to: the clauses of
-- hd_host.
use Rattle.std.specs.Prelude.{◌≡◌, ℕ, Bool, Option, None, Some, Result, Ok, Err, MatchResult, IfOk, option_map, List, [], ◌∷◌, length, ◌<◌, ◌≤◌}
use Rattle.hd_model.specs.{declared.data.Id.Id, declared.data.Kind.Kind, declared.data.Make.Make, declared.data.Report.Report, declared.data.Slot.Slot, declared.data.Strength.Strength, declared.handle.Handle.Handle as Info, Command.load_reply, Handles.handle_of as handle_seen, State.handle_at}
use Rattle.hd_model.specs.declared.command.Cmd.TheVariants as cmd
use Rattle.hd_model.specs.declared.data.Reply.TheVariants as reply
use Rattle.hd_model.specs.declared.data.Reply.{Reply}
use Rattle.hd_model.specs.declared.limits.TheConstants.{FIELDS}
use Rattle.hd_model.specs.State.{register_of, with_register}
use Rattle.hd_commands.specs.Done.{queued_reply}
use Rattle.hd_store.specs.Replies.{found_reply, removed_reply, root_reply}
use Rattle.hd_store.specs.declared.collection_calls.Root.{Root}
use Rattle.hd_store.specs.declared.hosted.Loaded.{Loaded}
use Rattle.hd_store.specs.Hosted.{with_cleared}
use Rattle.hd_store.specs.declared.entry_calls.Lookup.{Lookup}
use Rattle.hd_host.specs.declared.change.Change.{Change}
use Rattle.hd_host.specs.declared.fault.Fault.{Fault}
use Rattle.hd_host.specs.declared.fault.Fault.TheVariants as fault
use Rattle.hd_host.specs.declared.handle.Handle.{Handle}
use Rattle.hd_host.specs.Calls.{AddsEntry, FailsBy, FailsOf, FreesHandle, HasReplied, MakesHandle, Tries, TriesOf, Trims}
use Rattle.hd_host.specs.Handles.{IsOf, IsStale}
use Rattle.hd_host.specs.Turns.{TrimsAll, TrimsBlock}
use Rattle.hd_host.specs.View.{HostView, IsAsItWas}
use Rattle.hd_host.specs.Wide.{MakesObject, ReadsLoaded, TriesToSet, with_state}

-- ---- calls

-- a call on a handle: its context, its locals and what else it gets, and what it returned
pub data HandleCall : Type 0 where
  free : Result (Unit {0}) Fault → HandleCall
  get : (context dst : ℕ) → Result (Option Id) Fault → HandleCall
  set : (context src : ℕ) → Result (Unit {0}) Fault → HandleCall
  secondary_get : (context dst : ℕ) → Result (Option Id) Fault → HandleCall
  secondary_set : (context src : ℕ) → Result (Unit {0}) Fault → HandleCall
  strength_set : Strength → Result (Unit {0}) Fault → HandleCall
  count_up : Result ℕ Fault → HandleCall
  count_down : Result ℕ Fault → HandleCall
  address : Result ℕ Fault → HandleCall
  info : Result (Info Id) Fault → HandleCall
  kind : Result Kind Fault → HandleCall
  load : (context dst : ℕ) → Result Loaded Fault → HandleCall
  target_id : Result (Option Id) Fault → HandleCall

-- a call that gets no handle
pub data PlainCall : Type 0 where
  object_new : (context dst fields : ℕ) → Bool → Result Id Fault → PlainCall
  field_get : (context dst object i : ℕ) → Result (Option Id) Fault → PlainCall
  field_set : (context object i src : ℕ) → Result (Unit {0}) Fault → PlainCall
  value_get : (context object : ℕ) → Result ℕ Fault → PlainCall
  value_set : (context object value : ℕ) → Result (Unit {0}) Fault → PlainCall
  generation : (context object : ℕ) → Result ℕ Fault → PlainCall
  suppress : (context object : ℕ) → Result (Unit {0}) Fault → PlainCall
  reregister : (context object : ℕ) → Result (Unit {0}) Fault → PlainCall
  local_copy : (context dst src : ℕ) → PlainCall
  local_clear : (context dst : ℕ) → PlainCall
  static_set : (context k src : ℕ) → PlainCall
  static_get : (context dst k : ℕ) → Option Id → PlainCall
  handle_new : (context : ℕ) → Make → (target : ℕ) → Result Handle Fault → PlainCall
  table_add : (context key value : ℕ) → Result (Unit {0}) Fault → PlainCall
  table_find : (context dst key : ℕ) → Result Lookup Fault → PlainCall
  table_remove : (context key : ℕ) → Result Bool Fault → PlainCall
  collect : (n : ℕ) → Result Report Fault → PlainCall
  final_next : (context dst : ℕ) → Option Id → PlainCall
  trim : Kind → (given : ℕ) → PlainCall
  trim_block : Kind → (given : ℕ) → PlainCall
  trim_all : (given : ℕ) → PlainCall
  root_of : (context object : ℕ) → Result (Option Root) Fault → PlainCall
  recall : Change → PlainCall
  field_load : (context dst object i : ℕ) → Result Loaded Fault → PlainCall
  object_make : (context dst value : ℕ) → Bool → (src : List ℕ) → Result Id Fault → PlainCall
  table_set : (context key value : ℕ) → Result Bool Fault → PlainCall
  local_pass : (to dst from src : ℕ) → Option Id → PlainCall
  locals_clear : (context first count : ℕ) → PlainCall
  -- `contexts`, `last`, `stats`, `sizes`, `local_id`, `locals`, `next_handle`, `next_of`,
  -- `object_info` and `context_left`
  observes : PlainCall

pub data Call : Type 0 where
  on_handle : Handle → HandleCall → Call
  plain : PlainCall → Call

-- ---- what each comes to

-- what a load returns, as a reply
abbrev pub loaded_reply : Loaded → Reply
loaded_reply l = load_reply l.id

-- a context of the host, and as many locals as an object may have fields
abbrev pub IsContextWith : HostView → ℕ → List ℕ → Type 0
IsContextWith v context src = (context < v.machine.numbers.callers) × (length src ≤ FIELDS)

-- a look at a handle changes nothing: it returns something of the handle, which is live, or that it is stale
abbrev pub Looks : {T : Type 0} → HostView → Handle → (Slot → T → Type 0) → HostView → Result T Fault → Type 0
Looks old handle is new result =
    (new ≡ old) × MatchResult result (λ x. (slot : Slot) × IsOf old handle slot × is slot x)
    (λ f. (f ≡ fault.Stale) × IsStale old handle)

abbrev pub DoesOn : Handle → HandleCall → HostView → HostView → Type 0
DoesOn handle (free result) old new =
    MatchResult result (λ _. FreesHandle old handle new)
    (λ f. FailsOf old 0 handle (cmd.HFree 0) f × IsAsItWas old new)
DoesOn handle (get context dst result) old new =
    TriesOf old context handle (cmd.HGet dst 0) load_reply new result
DoesOn handle (set context src result) old new =
    TriesOf old context handle (cmd.HSet 0 src) (λ _. reply.Done) new result
DoesOn handle (secondary_get context dst result) old new =
    TriesOf old context handle (cmd.HDep dst 0) load_reply new result
DoesOn handle (secondary_set context src result) old new =
    TriesOf old context handle (cmd.HSec 0 src) (λ _. reply.Done) new result
DoesOn handle (strength_set strength result) old new =
    TriesOf old 0 handle (cmd.HVar 0 strength) (λ _. reply.Done) new result
DoesOn handle (count_up result) old new = TriesOf old 0 handle (cmd.HUp 0) reply.Value new result
DoesOn handle (count_down result) old new = TriesOf old 0 handle (cmd.HDown 0) reply.Value new result
DoesOn handle (address result) old new = TriesOf old 0 handle (cmd.AddrOf 0) reply.Place new result
DoesOn handle (load context dst result) old new =
    TriesOf old context handle (cmd.HGet dst 0) loaded_reply new result
    × IfOk result (ReadsLoaded context dst new)
DoesOn handle (info result) old new =
    Looks old handle (λ slot seen. handle_at old.machine.state slot ≡ Some (handle_seen seen)) new result
DoesOn handle (kind result) old new =
    Looks old handle (λ slot of. option_map (λ h. h.kind) (handle_at old.machine.state slot) ≡ Some of) new
    result
DoesOn handle (target_id result) old new =
    Looks old handle
    (λ slot target. option_map (λ h. h.target) (handle_at old.machine.state slot) ≡ Some target)
    new result

abbrev pub DoesPlainly : PlainCall → HostView → HostView → Type 0
DoesPlainly (object_new context dst fields fin result) old new =
    Tries old context (cmd.New dst fields fin) reply.Object new result
DoesPlainly (field_get context dst object i result) old new =
    Tries old context (cmd.Get dst object i) load_reply new result
DoesPlainly (field_set context object i src result) old new =
    Tries old context (cmd.Set object i src) (λ _. reply.Done) new result
DoesPlainly (value_get context object result) old new =
    Tries old context (cmd.Read object) reply.Value new result
DoesPlainly (value_set context object value result) old new =
    Tries old context (cmd.Val object value) (λ _. reply.Done) new result
DoesPlainly (generation context object result) old new =
    Tries old context (cmd.Gen object) reply.Generation new result
DoesPlainly (suppress context object result) old new =
    Tries old context (cmd.Suppress object) (λ _. reply.Done) new result
DoesPlainly (reregister context object result) old new =
    Tries old context (cmd.Reregister object) (λ _. reply.Done) new result
DoesPlainly (local_copy context dst src) old new =
    HasReplied old context None (cmd.Copy dst src) reply.Done new
DoesPlainly (local_clear context dst) old new = HasReplied old context None (cmd.Clear dst) reply.Done new
DoesPlainly (static_set context k src) old new = HasReplied old context None (cmd.SPut k src) reply.Done new
DoesPlainly (static_get context dst k result) old new =
    HasReplied old context None (cmd.SGet dst k) (load_reply result) new
DoesPlainly (handle_new context make target result) old new =
    MatchResult result (MakesHandle old context make target new)
    (λ f. FailsBy old context None (cmd.HNew 0 make target) f × IsAsItWas old new)
DoesPlainly (table_add context key value result) old new =
    MatchResult result (λ _. AddsEntry old context key value new)
    (λ f. FailsBy old context None (cmd.CAdd key value) f × IsAsItWas old new)
DoesPlainly (table_find context dst key result) old new =
    Tries old context (cmd.CFind dst key) found_reply new result
DoesPlainly (table_remove context key result) old new =
    Tries old context (cmd.CRemove key) removed_reply new result
DoesPlainly (collect n result) old new = Tries old 0 (cmd.Collect n) reply.Report new result
DoesPlainly (final_next context dst result) old new =
    HasReplied old context None (cmd.Final dst) (queued_reply result) new
DoesPlainly (trim of given) old new = Trims old of given new
DoesPlainly (trim_block of given) old new = TrimsBlock old of given new
DoesPlainly (trim_all given) old new = TrimsAll old given new
DoesPlainly (root_of context object result) old new =
    Tries old context (cmd.GcRoot object) root_reply new result
DoesPlainly (recall last) old new = new ≡ record old { last = last }
DoesPlainly (field_load context dst object i result) old new =
    Tries old context (cmd.Get dst object i) loaded_reply new result
    × IfOk result (ReadsLoaded context dst new)
DoesPlainly (object_make context dst value fin src result) old new =
    IsContextWith old context src
    × MatchResult result (MakesObject old context dst value fin src new)
    (λ f. FailsBy old context None (cmd.New dst (length src) fin) f × IsAsItWas old new)
DoesPlainly (table_set context key value result) old new = TriesToSet old context key value new result
DoesPlainly (local_pass to dst from src result) old new =
    (to < old.machine.numbers.callers) × (from < old.machine.numbers.callers)
    × (new ≡ with_state old
    (with_register old.machine.state to dst (register_of old.machine.state from src)))
    × (result ≡ register_of old.machine.state from src)
DoesPlainly (locals_clear context first count) old new =
    (context < old.machine.numbers.callers)
    × (new ≡ with_state old (with_cleared old.machine.state context first count))
DoesPlainly observes old new = new ≡ old

abbrev pub Does : Call → HostView → HostView → Type 0
Does (on_handle handle call) old new = DoesOn handle call old new
Does (plain call) old new = DoesPlainly call old new

-- calls, one after another, each of the host that the one before left
pub data Calls : HostView → List Call → HostView → Type 0 where
  none : {u : HostView} → Calls u [] u
  first : {u v w : HostView} {call : Call} {calls : List Call} → Does call u v → Calls v calls w
      → Calls u (call ∷ calls) w

-- the fault that a call returned, if any
abbrev pub fault_in : {T : Type 0} → Result T Fault → Option Fault
fault_in (Ok x) = None
fault_in (Err f) = Some f

abbrev pub returned : HandleCall → Option Fault
returned (free result) = fault_in result
returned (get context dst result) = fault_in result
returned (set context src result) = fault_in result
returned (secondary_get context dst result) = fault_in result
returned (secondary_set context src result) = fault_in result
returned (strength_set strength result) = fault_in result
returned (count_up result) = fault_in result
returned (count_down result) = fault_in result
returned (address result) = fault_in result
returned (info result) = fault_in result
returned (kind result) = fault_in result
returned (load context dst result) = fault_in result
returned (target_id result) = fault_in result

abbrev pub returned_plainly : PlainCall → Option Fault
returned_plainly (object_new context dst fields fin result) = fault_in result
returned_plainly (field_get context dst object i result) = fault_in result
returned_plainly (field_set context object i src result) = fault_in result
returned_plainly (value_get context object result) = fault_in result
returned_plainly (value_set context object value result) = fault_in result
returned_plainly (generation context object result) = fault_in result
returned_plainly (suppress context object result) = fault_in result
returned_plainly (reregister context object result) = fault_in result
returned_plainly (local_copy context dst src) = None
returned_plainly (local_clear context dst) = None
returned_plainly (static_set context k src) = None
returned_plainly (static_get context dst k result) = None
returned_plainly (handle_new context make target result) = fault_in result
returned_plainly (table_add context key value result) = fault_in result
returned_plainly (table_find context dst key result) = fault_in result
returned_plainly (table_remove context key result) = fault_in result
returned_plainly (collect n result) = fault_in result
returned_plainly (final_next context dst result) = None
returned_plainly (trim of given) = None
returned_plainly (trim_block of given) = None
returned_plainly (trim_all given) = None
returned_plainly (root_of context object result) = fault_in result
returned_plainly (recall last) = None
returned_plainly (field_load context dst object i result) = fault_in result
returned_plainly (object_make context dst value fin src result) = fault_in result
returned_plainly (table_set context key value result) = fault_in result
returned_plainly (local_pass to dst from src result) = None
returned_plainly (locals_clear context start count) = None
returned_plainly observes = None

abbrev pub returned_by : Call → Option Fault
returned_by (on_handle handle call) = returned call
returned_by (plain call) = returned_plainly call
