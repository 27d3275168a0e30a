-- What calls come to that are not one command of the machine: loads with the value of what they found, and
-- steps of a host alone.
use Rattle.std.specs.Prelude.{◌≡◌, ◌⊎◌, ℕ, Bool, List, length, map, Option, None, Some, IfSome, MatchResult, Result}
use Rattle.hd_model.specs.{declared.data.Id.Id, State.State, State.object_by_id, State.register_of, State.with_object}
use Rattle.hd_model.specs.declared.command.Cmd.TheVariants as cmd
use Rattle.hd_model.specs.declared.data.Reply.TheVariants as reply
use Rattle.hd_store.specs.{Hosted.value_of, Replies.removed_reply, StateHeap.IsStoredAt}
use Rattle.hd_store.specs.declared.hosted.Loaded.{Loaded}
use Rattle.hd_host.specs.declared.fault.Fault.{Fault}
use Rattle.hd_host.specs.{Calls.FailsBy, Calls.HasReplied, Changes.no_change, View.HostView, View.IsAsItWas}

-- what a load found in a host that it left: `read` replies with that value, where it found an object, and
-- leaves the host so
pub record ReadsLoaded (context dst : ℕ) (new : HostView) (l : Loaded) : Type 0 where
  pub value : l.value ≡ value_of new.machine.state l.id
  pub read : IfSome l.id (λ _. HasReplied new context None (cmd.Read dst) (reply.Value l.value) new)

-- the number of an identity, 0 for null
abbrev pub id_number : Option Id → ℕ
id_number None = 0
id_number (Some id) = id.0

-- a host after a step of its own, which leaves it another state, and neither gives nor frees a slot
abbrev pub with_state : HostView → State → HostView
with_state v s = record v { machine = record v.machine { state = s }; last = no_change }

-- an object was made as by `new`, and then its value and its fields were written, and nothing else: they
-- reference what locals of its context did before
pub record MakesObject (old : HostView) (context dst value : ℕ) (fin : Bool) (src : List ℕ) (new : HostView)
    (id : Id) : Type 0 where
  pub made : HostView
  pub replied : HasReplied old context None (cmd.New dst (length src) fin) (reply.Object id) made
  pub written : new ≡ record made {
    machine = record made.machine {
      state = with_object made.machine.state id (record (object_by_id made.machine.state id) {
        fields = map (register_of old.machine.state context) src;
        value = value;
      });
      heap = new.machine.heap;
    };
  }
  pub addresses : (x : Id) (a : ℕ) → IsStoredAt made.machine.heap x a → IsStoredAt new.machine.heap x a

-- the entry of a key was taken out, or there was none, and then added anew: two commands in a row, the second
-- from the host that the first left
pub record SetsEntry (old : HostView) (context key value : ℕ) (new : HostView) (replaced : Bool)
    : Type 0 where
  pub between : HostView
  pub removed : HasReplied old context None (cmd.CRemove key) (removed_reply replaced) between
  pub added : HasReplied between context None (cmd.CAdd key value) reply.Done new

-- the second of them fails in the host that the first left, where there was no entry
pub record FailsToAdd (old : HostView) (context key value : ℕ) (fault : Fault) : Type 0 where
  pub between : HostView
  pub removed : HasReplied old context None (cmd.CRemove key) reply.Absent between
  pub fails : FailsBy between context None (cmd.CAdd key value) fault

-- they were done in a row, or one of them fails, and all is as it was before the first
abbrev pub TriesToSet : HostView → (context key value : ℕ) → HostView → Result Bool Fault → Type 0
TriesToSet old context key value new result =
    MatchResult result (SetsEntry old context key value new)
    (λ fault. (FailsBy old context None (cmd.CRemove key) fault ⊎ FailsToAdd old context key value fault)
    × IsAsItWas old new)
