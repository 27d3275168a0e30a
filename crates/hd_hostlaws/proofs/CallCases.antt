-- What a call does, in a few cases: all laws go by them.
use Rattle.std.proofs.Common.{Bool, List, None, Option, Some, ap, arith, false, inl, inr, refl, subst, sym, true, ℕ, ◌<◌, ◌≡◌}
use Rattle.std.specs.Prelude.{Err, Ok, Result}
use Rattle.hd_model.specs.{declared.command.Cmd.Cmd, declared.data.Entry.Entry, declared.data.Kind.Kind, declared.data.Report.Report, declared.data.Reply.Reply, declared.data.Slot.Slot, declared.data.Id.Id, Kinds.is_paired}
use Rattle.hd_model.specs.Command.{load_reply}
use Rattle.hd_model.specs.State.{Numbers, State, register_of, with_register}
use Rattle.hd_store.specs.Hosted.{with_cleared}
use Rattle.hd_model.specs.declared.command.Cmd.TheVariants as cmd
use Rattle.hd_model.specs.declared.data.Reply.TheVariants as reply
use Rattle.hd_store.specs.Replies.{found_reply, removed_reply, root_reply}
use Rattle.hd_host.specs.declared.change.Change.{Change}
use Rattle.hd_host.specs.declared.fault.Fault.{Fault}
use Rattle.hd_host.specs.declared.handle.Handle.{Handle}
use Rattle.hd_host.specs.Calls.{FreesHandle, HasDone, HasReplied, Tries, TriesOf}
use Rattle.hd_host.specs.Handles.{IsOf}
use Rattle.hd_host.specs.Turns.{HostStep, HostTurn, IsAsItWasButLast, IsContextOf, IsOneOf, IsWithHandle, LeavesState, MakesFilled, TrimsBy, TrimsRow, alone, clears, frees, gives_back, makes, more, one, passes, stays, steps, trims}
use Rattle.hd_host.specs.View.{HostView, IsAsItWas, state_in}
use Rattle.hd_host.specs.Wide.{MakesObject, with_state}
use Rattle.hd_host.proofs.CallTurns.{but_last}
use Rattle.hd_host.proofs.SameHost.{unchanged}
use Rattle.hd_host.proofs.SoundTurns.{stepped_known, stepped_numbers}
use Rattle.hd_hostlaws.specs.Calls.{Call, Does, DoesOn, DoesPlainly, HandleCall, IsContextWith, Looks, PlainCall, address, collect, count_down, count_up, field_get, field_load, field_set, final_next, free, generation, get, handle_new, info, kind, load, loaded_reply, local_clear, local_copy, local_pass, locals_clear, object_make, object_new, observes, on_handle, plain, recall, reregister, root_of, secondary_get, secondary_set, set, static_get, static_set, strength_set, suppress, table_add, table_find, table_remove, table_set, target_id, trim, trim_all, trim_block, value_get, value_set}
use Rattle.hd_hostlaws.specs.Laws.{EachCallIsATurn}

-- which commands may take another target from a handle: 0 where none does
abbrev pub sort : Cmd → ℕ
sort (cmd.HSet h t) = 1
sort (cmd.HFree h) = 2
sort (cmd.Collect k) = 3
sort _ = 0

-- a command that sets no handle, frees none and does not collect
pub record Acts (u w : HostView) : Type 0 where
  pub context : ℕ
  pub slot : Option Slot
  pub command : Cmd
  pub entry : Entry
  pub with_handle : IsWithHandle u slot
  pub plain : sort command ≡ 0
  pub did : HasDone u context slot command entry w

-- nothing, but for `last`; such a command, or two in a row; a step of a host alone; blocks given back in a row;
-- or a command that sets a handle, frees one, or collects
pub data DoesOne (u w : HostView) : Call → Type 0 where
  nothing : {call : Call} → IsAsItWasButLast u w → DoesOne u w call
  acts : {call : Call} → Acts u w → DoesOne u w call
  in_row : {call : Call} {v : HostView} → Acts u v → Acts v w → DoesOne u w call
  steps_alone : {call : Call} → HostStep u.machine.numbers.callers 0 u w → DoesOne u w call
  trims_row : {call : Call} {kinds : List Kind} → TrimsRow kinds u w → DoesOne u w call
  sets_it : {handle : Handle} {context src : ℕ} (slot : Slot) (e : Entry) → IsOf u handle slot
      → HasDone u context (Some slot) (cmd.HSet 0 src) e w
      → DoesOne u w (on_handle handle (set context src (Ok tt)))
  frees_it : {handle : Handle} → FreesHandle u handle w → DoesOne u w (on_handle handle (free (Ok tt)))
  collects_all : {n : ℕ} {report : Report} (e : Entry) → HasDone u 0 None (cmd.Collect n) e w
      → DoesOne u w (plain (collect n (Ok report)))

own_context : (each c : ℕ) → c < each → IsContextOf each 0 c
own_context each c known = (omega arith, omega (arith, known))

-- a command with a reply
pub acting : {u w : HostView} (context : ℕ) (slot : Option Slot) (command : Cmd) {answer : Reply}
    → IsWithHandle u slot
    → sort command ≡ 0 → HasReplied u context slot command answer w → Acts u w
acting context slot command with_handle is did = record {
  context = context;
  slot = slot;
  command = command;
  entry = did.entry;
  with_handle = with_handle;
  plain = is;
  did = did.done;
}

-- a state is left by a step of the host's own
left_by : (u w : HostView) (s : State) → w ≡ with_state u s → LeavesState u s w
left_by u w s is = subst (LeavesState u s) (sym is) (record {
  numbers = refl;
  state = refl;
  addresses = λ x a at. at;
  ages = refl;
  stamps = refl;
  last = refl;
})

module _ {u w : HostView} where
  refused : {call : Call} → IsAsItWas u w → DoesOne u w call
  refused is = nothing (but_last is)

  same : {call : Call} → w ≡ u → DoesOne u w call
  same is = refused (subst (IsAsItWas u) (sym is) (unchanged u))

  recalled : {call : Call} (last : Change) → w ≡ record u { last = last } → DoesOne u w call
  recalled last is = nothing (subst (IsAsItWasButLast u) (sym is) (record {
    numbers = refl;
    state = refl;
    addresses = λ x a at. at;
    ages = refl;
    stamps = refl;
    last = refl;
  }))

  replied : {call : Call} (context : ℕ) (command : Cmd) {answer : Reply} → sort command ≡ 0
      → HasReplied u context None command answer w → DoesOne u w call
  replied context command is did = acts (acting context None command (inl refl) is did)

  tries : {call : Call} {T : Type 0} (context : ℕ) (command : Cmd) (reply_of : T → Reply)
      (result : Result T Fault)
      → sort command ≡ 0 → Tries u context command reply_of w result → DoesOne u w call
  tries context command reply_of (Ok x) is did = replied context command is did
  tries context command reply_of (Err f) is did = refused did.1

  tries_of : {call : Call} {T : Type 0} (context : ℕ) (handle : Handle) (command : Cmd) (reply_of : T → Reply)
      (result : Result T Fault) → sort command ≡ 0 → TriesOf u context handle command reply_of w result
      → DoesOne u w call
  tries_of context handle command reply_of (Ok x) is did =
      acts (acting context (Some did.slot) command (inr (did.slot, handle, refl, did.handle_is)) is
      did.replied)
  tries_of context handle command reply_of (Err f) is did = refused did.1

  filled : {context dst value : ℕ} {fin : Bool} {src : List ℕ} {id : Id} → IsContextWith u context src
      → MakesObject u context dst value fin src w id → MakesFilled u.machine.numbers.callers 0 u w
  filled {context = context} {dst = dst} {value = value} {fin = fin} {src = src} {id = id} known did =
      record {
        context = context;
        dst = dst;
        registered = fin;
        value = value;
        src = src;
        own = (own_context u.machine.numbers.callers context known.0, known.0);
        few = known.1;
        id = id;
        made = did.made;
        replied = did.replied;
        filled = record {
          numbers = ap (λ (v : HostView). v.machine.numbers) did.written;
          state = ap (λ (v : HostView). state_in v.machine) did.written;
          addresses = did.addresses;
          ages = ap (λ (v : HostView). v.machine.ages) did.written;
          stamps = ap (λ (v : HostView). v.stamps) did.written;
          last = refl;
        };
      }

  -- a block is given back, or none
  trimmed : (paired : Bool) {call : Call} (of : Kind) (given : ℕ) → TrimsBy paired u of given w
      → DoesOne u w call
  trimmed true of given (inl did) = steps_alone (gives_back of did.1)
  trimmed true of given (inr kept) = nothing kept.1.same
  trimmed false of given did = replied 0 (cmd.Trim of) refl did.replied

  on_one : (handle : Handle) (call : HandleCall) → DoesOn handle call u w
      → DoesOne u w (on_handle handle call)
  on_one handle (free (Ok x)) did = frees_it did
  on_one handle (free (Err f)) did = refused did.1
  on_one handle (get context dst result) did =
      tries_of context handle (cmd.HGet dst 0) load_reply result refl did
  on_one handle (set context src (Ok x)) did =
      sets_it did.slot did.replied.entry did.handle_is did.replied.done
  on_one handle (set context src (Err f)) did = refused did.1
  on_one handle (secondary_get context dst result) did =
      tries_of context handle (cmd.HDep dst 0) load_reply result refl did
  on_one handle (secondary_set context src result) did =
      tries_of context handle (cmd.HSec 0 src) (λ _. reply.Done) result refl did
  on_one handle (strength_set strength result) did =
      tries_of 0 handle (cmd.HVar 0 strength) (λ _. reply.Done) result refl did
  on_one handle (count_up result) did = tries_of 0 handle (cmd.HUp 0) reply.Value result refl did
  on_one handle (count_down result) did = tries_of 0 handle (cmd.HDown 0) reply.Value result refl did
  on_one handle (address result) did = tries_of 0 handle (cmd.AddrOf 0) reply.Place result refl did
  on_one handle (load context dst result) did =
      tries_of context handle (cmd.HGet dst 0) loaded_reply result refl did.0
  on_one handle (target_id result) did = same did.0
  on_one handle (info result) did = same did.0
  on_one handle (kind result) did = same did.0

  plain_one : (call : PlainCall) → DoesPlainly call u w → DoesOne u w (plain call)
  plain_one (object_new context dst fields fin result) did =
      tries context (cmd.New dst fields fin) reply.Object result refl did
  plain_one (field_get context dst object i result) did =
      tries context (cmd.Get dst object i) load_reply result refl did
  plain_one (field_set context object i src result) did =
      tries context (cmd.Set object i src) (λ _. reply.Done) result refl did
  plain_one (value_get context object result) did =
      tries context (cmd.Read object) reply.Value result refl did
  plain_one (value_set context object value result) did =
      tries context (cmd.Val object value) (λ _. reply.Done) result refl did
  plain_one (generation context object result) did =
      tries context (cmd.Gen object) reply.Generation result refl did
  plain_one (suppress context object result) did =
      tries context (cmd.Suppress object) (λ _. reply.Done) result refl did
  plain_one (reregister context object result) did =
      tries context (cmd.Reregister object) (λ _. reply.Done) result refl did
  plain_one (local_copy context dst src) did = replied context (cmd.Copy dst src) refl did
  plain_one (local_clear context dst) did = replied context (cmd.Clear dst) refl did
  plain_one (static_set context k src) did = replied context (cmd.SPut k src) refl did
  plain_one (static_get context dst k result) did = replied context (cmd.SGet dst k) refl did
  plain_one (handle_new context make target (Ok handle)) did =
      acts (record {
        context = context;
        slot = None;
        command = cmd.HNew 0 make target;
        entry = did.entry;
        with_handle = inl refl;
        plain = refl;
        did = did.done;
      })
  plain_one (handle_new context make target (Err f)) did = refused did.1
  plain_one (table_add context key value (Ok x)) did = replied context (cmd.CAdd key value) refl did
  plain_one (table_add context key value (Err f)) did = refused did.1
  plain_one (table_find context dst key result) did =
      tries context (cmd.CFind dst key) found_reply result refl did
  plain_one (table_remove context key result) did =
      tries context (cmd.CRemove key) removed_reply result refl did
  plain_one (collect n (Ok report)) did = collects_all did.entry did.done
  plain_one (collect n (Err f)) did = refused did.1
  plain_one (final_next context dst result) did = replied context (cmd.Final dst) refl did
  plain_one (trim of given) did = replied 0 (cmd.Trim of) refl did.replied
  plain_one (trim_block of given) did = trimmed (is_paired of) of given did
  plain_one (trim_all given) did = trims_row did.row
  plain_one (root_of context object result) did = tries context (cmd.GcRoot object) root_reply result refl did
  plain_one (recall last) did = recalled last did
  plain_one (field_load context dst object i result) did =
      tries context (cmd.Get dst object i) loaded_reply result refl did.0
  plain_one (object_make context dst value fin src (Ok id)) did = steps_alone (makes (filled did.0 did.1))
  plain_one (object_make context dst value fin src (Err f)) did = refused did.1.1
  plain_one (table_set context key value (Ok replaced)) did =
      in_row (acting context None (cmd.CRemove key) (inl refl) refl did.removed)
      (acting context None (cmd.CAdd key value) (inl refl) refl did.added)
  plain_one (table_set context key value (Err f)) did = refused did.1
  plain_one (local_pass to dst from src result) did =
      steps_alone (passes to dst from src (own_context u.machine.numbers.callers to did.0, did.0)
      (own_context u.machine.numbers.callers from did.1, did.1)
      (left_by u w (with_register u.machine.state to dst (register_of u.machine.state from src)) did.2))
  plain_one (locals_clear context first count) did =
      steps_alone (clears context first count (own_context u.machine.numbers.callers context did.0, did.0)
      (left_by u w (with_cleared u.machine.state context first count) did.1))
  plain_one observes did = same did

  pub does_one : (call : Call) → Does call u w → DoesOne u w call
  does_one (on_handle handle call) did = on_one handle call did
  does_one (plain call) did = plain_one call did

-- ---- turns

one_of : {u w : HostView} (each : ℕ) {context : ℕ} {slot : Option Slot} {command : Cmd} {e : Entry} → context < each
    → IsWithHandle u slot → HasDone u context slot command e w → IsOneOf each 0 u w
one_of each {context = context} {slot = slot} {command = command} {e = e} known with_handle did = record {
  context = context;
  command = command;
  own = inl (own_context each context known);
  slot = slot;
  with_handle = with_handle;
  entry = e;
  done = did;
}

module _ {u w : HostView} where
  did_turn : {context : ℕ} {slot : Option Slot} {command : Cmd} {e : Entry} → IsWithHandle u slot
      → HasDone u context slot command e w → HostTurn u.machine.numbers.callers 0 u w
  did_turn with_handle did =
      steps (one (one_of u.machine.numbers.callers (stepped_known did.stepped) with_handle did))

  pub acts_turn : Acts u w → HostTurn u.machine.numbers.callers 0 u w
  acts_turn a = did_turn a.with_handle a.did

  one_turn : {call : Call} → DoesOne u w call → HostTurn u.machine.numbers.callers 0 u w
  one_turn (nothing is) = stays is
  one_turn (acts a) = acts_turn a
  one_turn (in_row a b) =
      steps (more (one_of u.machine.numbers.callers (stepped_known a.did.stepped) a.with_handle a.did)
      (one (one_of u.machine.numbers.callers (subst (λ (n : Numbers). b.context < n.callers)
      (stepped_numbers a.did.stepped) (stepped_known b.did.stepped)) b.with_handle b.did)))
  one_turn (steps_alone step) = alone step
  one_turn (trims_row row) = trims row
  one_turn (sets_it {handle = handle} slot e of did) = did_turn (inr (slot, handle, refl, of)) did
  one_turn (frees_it {handle = handle} did) = frees handle did
  one_turn (collects_all e did) = did_turn (inl refl) did

-- each call is a turn of the end that has all contexts
pub each_call_is_a_turn : EachCallIsATurn
each_call_is_a_turn call u w did = one_turn (does_one {u = u} {w = w} call did)
