-- Calls that are more than one command, and steps of a host alone.
use Rattle.std.proofs.Common.{Bool, Err, List, None, Ok, Option, Result, Some, ap, length, map, refl, subst, sym, ℕ, ◌<◌, ◌∙◌, ◌≡◌}
use Rattle.std.specs.Prelude.{IfOk, IfSome, MatchResult}
use Rattle.hd_model.specs.{declared.data.Id.Id, declared.data.Refusal.Refusal, State.Numbers, State.Object, State.State, State.object_by_id, State.register_of, State.with_object}
use Rattle.std.specs.{FinMap.FinMap, Ordering.nat_cmp}
use Rattle.hd_model.specs.Heap.{Heap}
use Rattle.hd_model.specs.declared.command.Cmd.TheVariants as cmd
use Rattle.hd_model.specs.declared.data.Reply.TheVariants as reply
use Rattle.hd_pool.specs.Pool.{FreeSlots}
use Rattle.hd_store.specs.{Calls.HasReturned, Calls.IsSound, Store.Machine}
use Rattle.hd_store.specs.Hosted.{IsReadBy, MakesObject as StoreMakes}
use Rattle.hd_store.specs.declared.hosted.Loaded.{Loaded}
use Rattle.hd_host.specs.{declared.change.Change.Change, Changes.no_change, declared.fault.Fault.Fault, Calls.FailsBy, View.HostView, View.IsAsItWas, Inside.IsHost, Inside.Settled, Inside.fault_of, Wide.MakesObject, Wide.ReadsLoaded, Wide.with_state}
use Rattle.hd_host.proofs.CallHost.{view_of}
use Rattle.hd_host.proofs.ValueCalls.{fails_by, host_on, moved_plainly, replied_on, called_numbers}

-- ---- a store of which the host wrote locals, or an object

pub host_locals : {m : Machine} {p : FreeSlots} {stamps : List ℕ} (registers : List (List (Option Id)))
    → IsHost m p stamps → IsSound (record m { state = record m.state { registers = registers } })
    → IsHost (record m { state = record m.state { registers = registers } }) p stamps
host_locals registers host sound = record {
  limits = host.limits;
  tied = record {
    blocks = host.tied.blocks;
    kinds = host.tied.kinds;
    free = host.tied.free;
    well_formed = sound.well_formed;
  };
  empty = host.empty;
  stamps = host.stamps;
  live = host.live;
}

pub host_objects : {m : Machine} {p : FreeSlots} {stamps : List ℕ} (objects : FinMap nat_cmp (Object Id)) (heap : Heap)
    → IsHost m p stamps → IsSound (record m { state = record m.state { objects = objects }; heap = heap })
    → IsHost (record m { state = record m.state { objects = objects }; heap = heap }) p stamps
host_objects objects heap host sound = record {
  limits = host.limits;
  tied = record {
    blocks = host.tied.blocks;
    kinds = host.tied.kinds;
    free = host.tied.free;
    well_formed = sound.well_formed;
  };
  empty = host.empty;
  stamps = host.stamps;
  live = host.live;
}

-- ---- what a load found is what `read` replies

pub each_some : {A : Type 0} {X Y : Type 0} (o : Option A) → (X → Y) → IfSome o (λ _. X) → IfSome o (λ _. Y)
each_some None f x = tt
each_some (Some a) f x = f x

module _ {k : Machine} {p : FreeSlots} {stamps : List ℕ} (host : IsHost k p stamps) {context : ℕ}
    (known : context < k.numbers.callers) (dst : ℕ) (after : Change) (now : after ≡ no_change) where
  pub reads_by : (l : Loaded) → IsReadBy k context dst l → ReadsLoaded context dst (view_of k stamps after) l
  reads_by l reads = record {
    value = reads.value;
    read = each_some {X = HasReturned k context (cmd.Read dst) reply.Value k (Ok l.value)} l.id
        (λ called. replied_on {last = after} {v = view_of k stamps after} host refl known refl refl
        (reply.Value l.value) called refl refl now) reads.read;
  }

module _ {k : Machine} {p : FreeSlots} {stamps : List ℕ} (host : IsHost k p stamps) {context : ℕ}
    (known : context < k.numbers.callers) (dst : ℕ) (last : Change) where
  pub reads_settled : (r : Result Loaded Refusal) (after : Change) (result : Result Loaded Fault)
      → Settled last r after result → IfOk r (IsReadBy k context dst)
      → IfOk result (ReadsLoaded context dst (view_of k stamps after))
  reads_settled (Ok l) after result settled reads =
      subst (λ x. IfOk x (ReadsLoaded context dst (view_of k stamps after))) (sym settled.0)
      (reads_by host known dst after settled.1 l reads)
  reads_settled (Err why) after result settled reads =
      subst (λ x. IfOk x (ReadsLoaded context dst (view_of k stamps after))) (sym settled.0) tt

-- a context is one of as many contexts
pub known_on : {n o : Numbers} {context : ℕ} → o ≡ n → context < n.callers → context < o.callers
known_on {context = context} same known = subst (λ (x : Numbers). context < x.callers) (sym same) known

-- ---- steps of a host alone

module _ {m : Machine} {p : FreeSlots} {stamps : List ℕ} (host : IsHost m p stamps) {last : Change} {v : HostView}
    (view : view_of m stamps last ≡ v) (k : Machine) where
  pub host_alone : (registers : List (List (Option Id)))
      → k ≡ record m { state = record m.state { registers = registers } } → IsSound k → IsHost k p stamps
  host_alone registers is sound =
      subst (λ (x : Machine). IsHost x p stamps) (sym is) (host_locals registers host (subst IsSound is sound))

  pub steps_alone : (f : State → State) (after : Change) → k ≡ record m { state = f m.state } → after ≡ no_change
      → view_of k stamps after ≡ with_state v (f v.machine.state)
  steps_alone f after is now =
      (λ i. view_of (is i) stamps (now i)) ∙ (λ i. with_state (view i) (f (view i).machine.state))

-- ---- an object with its value and its fields

module _ {m : Machine} {p : FreeSlots} {stamps : List ℕ} {last : Change} {v : HostView} (host : IsHost m p stamps)
    (view : view_of m stamps last ≡ v) {context : ℕ} (known : context < v.machine.numbers.callers) (k : Machine)
    (dst value : ℕ) (fin : Bool) (src : List ℕ) (sound : IsSound k) where
  -- what is written into the object of an identity
  abbrev filled_as : State → State → Id → Object Id
  filled_as old made id = record (object_by_id made id) { fields = map (register_of old context) src; value = value }

  pub host_makes : (r : Result Id Refusal) → StoreMakes m context dst value fin src k r → IsHost k p stamps
  host_makes (Ok id) made =
      subst (λ (x : Machine). IsHost x p stamps) (sym made.written)
      (host_objects (with_object made.made.state id (filled_as m.state made.made.state id)).objects k.heap
      (host_on host view known refl refl made.called) (subst IsSound made.written sound))
  host_makes (Err why) called = host_on host view known refl refl called

  pub makes_numbers : (r : Result Id Refusal) → StoreMakes m context dst value fin src k r → k.numbers ≡ m.numbers
  makes_numbers (Ok id) made = ap (λ (x : Machine). x.numbers) made.written ∙ called_numbers made.called
  makes_numbers (Err why) called = called_numbers called

  abbrev Makes : Change → Result Id Fault → Type 0
  Makes after result = MatchResult result (MakesObject v context dst value fin src (view_of k stamps after))
      (λ fault. FailsBy v context None (cmd.New dst (length src) fin) fault × IsAsItWas v (view_of k stamps after))

  pub makes_tried : (r : Result Id Refusal) → StoreMakes m context dst value fin src k r → (after : Change)
      (result : Result Id Fault) → Settled last r after result → Makes after result
  makes_tried (Ok id) made after result settled = subst (Makes after) (sym settled.0) (record {
    made = view_of made.made stamps after;
    replied = replied_on host view known refl refl (reply.Object id) made.called refl refl settled.1;
    written = (λ i. view_of (made.written i) stamps after)
        ∙ (λ i. view_of (record made.made {
          state = with_object made.made.state id (filled_as (view i).machine.state made.made.state id);
          heap = k.heap;
        }) stamps after);
    addresses = made.addresses;
  })
  makes_tried (Err why) called after result settled = subst (Makes after) (sym settled.0)
      (subst (λ z. FailsBy v context None (cmd.New dst (length src) fin) (fault_of why)
      × IsAsItWas v (view_of k stamps z)) (sym settled.1)
      (fails_by host view known (moved_plainly host called refl) refl why refl))
