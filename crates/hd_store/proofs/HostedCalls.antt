-- What a host alone does to a store keeps it sound, and what its loads found.
use Rattle.hd_store.proofs.StoreWords.{Addr, Bool, Done, Err, FinMap, Id, IfOk, IfSome, IsOverHeap, IsSome, KeepsNames, List, Machine, None, Numbers, Object, Ok, Option, Outcome, Refusal, Result, Some, State, Zero, [], ap, arith, empty, false, field_of, fresh_object, get, get_inserted, get_or, if◌then◌else◌, insert, is_some, last_serial, le-ltb, length, length-replicate, lt-ltb, map, name_in, nat_cmp, nat_lt, object_by_id, object_named, option_map_or, refl, refuses, register_of, reply_with, seen_by, subst, suc, sym, total_size, true, unwrap_or, with_object, with_pinned, with_register, with_serial, zero, ℕ, ◌+◌, ◌<◌, ◌^◌, ◌∙◌, ◌∷◌, ◌≡◌, ◌≤◌}
use Rattle.hd_model.proofs.ReadAfterWrite.{cell_here, still_some}
use Rattle.hd_model.proofs.WellFormedWrites.{names_more, object_keeps, register_keeps}
use Rattle.hd_model.specs.{Command.new_object, Command.read_value, WellFormed.Names}
use Rattle.hd_model.specs.declared.command.Cmd.TheVariants as cmd
use Rattle.hd_model.specs.declared.data.Refusal.TheVariants as refusal
use Rattle.hd_model.specs.declared.data.Reply.TheVariants as reply
use Rattle.hd_model.specs.declared.limits.TheConstants.{FIELDS, OLDEST, REGISTERS}
use Rattle.hd_commands.specs.{Done.ComesTo, Done.done_with, Done.replied, Seen.Seen}
use Rattle.hd_store.specs.declared.hosted.Loaded.{Loaded}
use Rattle.hd_store.specs.{Calls.HasReturned, Calls.IsSound, StateHeap.IsStoredAt}
use Rattle.hd_store.specs.Hosted.{Fills, HasAdded, HasFilled, HasLoaded, HasMade, IsReadBy, MakesObject, identity_next, value_of, with_cleared}
use Rattle.hd_store.proofs.{ClearedRegisters.clears-none, ClearedRegisters.clears-suc, IdentityReadings.names-get, SoundCalls.unplaced, ValueCalls.called, ValueCalls.endless, ValueCalls.object-called, ValueCalls.object-sound, ValueCalls.known-in}

-- ---- registers

-- a register references an object, or null
pub sound-register : (m : Machine) (c d : ℕ) (v : Option Id) → IsSound m → c < m.numbers.callers
    → Names m.state v → IsSound (record m { state = with_register m.state c d v })
sound-register m c d v sound known named = record {
  limits = sound.limits;
  well_formed = unplaced m.numbers (with_register m.state c d v) empty
      (register_keeps m.numbers (with_pinned m.state empty) sound.well_formed c d v known named);
}

pub sound-cleared : (m : Machine) (c first n : ℕ) → IsSound m → c < m.numbers.callers
    → IsSound (record m { state = with_cleared m.state c first n })
sound-cleared m c first zero sound known =
    subst (λ s. IsSound (record m { state = s })) (sym (clears-none m.state c first)) sound
sound-cleared m c first (suc n) sound known =
    subst (λ s. IsSound (record m { state = s })) (clears-suc m.state c first n)
    (sound-register (record m { state = with_cleared m.state c first n }) c (first + n) None
    (sound-cleared m c first n sound known) known tt)

-- a register that was written
pub register-here : (m : Machine) (c d : ℕ) (v : Option Id) → IsSound m → c < m.numbers.callers → d < REGISTERS
    → register_of (with_register m.state c d v) c d ≡ v
register-here m c d v sound known low =
    let shape = sound.well_formed.shape in
    let row : c < length m.state.registers = omega (arith, shape.registers, known) in
    let cell : d < length (get_or m.state.registers c []) = omega (arith, shape.each_registers c known, low) in
    cell_here m.state.registers c d v None row cell

-- ---- what a load found is what `read` replies

-- what an outcome is as what a command came to
abbrev done_as : Outcome → Done
done_as w = record { reply = w.reply; slot = w.slot; grown = Zero }

-- what `read` comes to by what its register references
abbrev read_of : State → Option Id → Outcome
read_of s o = option_map_or (λ id. reply_with (reply.Value (object_by_id s id).value) s) o (refuses refusal.Null s)

read-by : (k : Machine) (caller d : ℕ) → IsSound k → caller < k.numbers.callers → IsOverHeap k → d < REGISTERS
    → (v : ℕ) (o : Option Id) → register_of k.state caller d ≡ o → v ≡ value_of k.state o
    → IfSome o (λ _. HasReturned k caller (cmd.Read d) reply.Value k (Ok v))
read-by k caller d sound known over low v None at is = tt
read-by k caller d sound known over low v (Some id) at is =
    called (cmd.Read d) (done_with reply.Value (Ok v)) sound refl known low (endless refl) over over refl refl
    refl refl came refl
  where
    came : ComesTo (read_value k.state caller d) (seen_by k) (seen_by k) (done_with reply.Value (Ok v))
    came = (
      ap (λ n. replied (reply.Value n)) is ∙ ap (λ o. done_as (read_of k.state o)) (sym at),
      (refl, ap (λ o. (read_of k.state o).after) (sym at), refl, refl, refl),
    )

module _ {m k : Machine} {caller : ℕ} (sound : IsSound m) (known : caller < m.numbers.callers)
    (after : IsSound k) (same : k.numbers ≡ m.numbers) (over : IsOverHeap k) (d : ℕ) (low : d < REGISTERS) where
  pub reads-loaded : (l : Loaded) → k.state ≡ with_register m.state caller d l.id → l.value ≡ value_of m.state l.id
      → IsReadBy k caller d l
  reads-loaded l state value =
      let is : l.value ≡ value_of k.state l.id = value ∙ sym (ap (λ s. value_of s l.id) state) in
      record {
        value = is;
        read = read-by k caller d after (subst (λ (n : Numbers). caller < n.callers) (sym same) known) over low
            l.value l.id
            (ap (λ s. register_of s caller d) state ∙ register-here m caller d l.id sound known low) is;
      }

  pub reads-field : (r : Result Loaded Refusal) → IfOk r (λ l. HasLoaded (seen_by m) (seen_by k) caller d l)
      → IfOk r (IsReadBy k caller d)
  reads-field (Ok l) has = reads-loaded l (ap (λ (p : Seen Addr (FinMap nat_cmp Id)). p.state) has.state) has.value
  reads-field (Err why) has = tt

-- ---- an object with its value and its fields

-- another object of an identity that has one
sound-object : (k : Machine) (id : Id) (o : Object Id) → IsSound k → IsSome (get k.state.objects id.0)
    → ((i : ℕ) → Names (with_object (with_pinned k.state empty) id o) (field_of o i)) → length o.fields ≤ FIELDS
    → o.generation ≤ OLDEST → IsSound (record k { state = with_object k.state id o })
sound-object k id o sound there named small young =
    let w = sound.well_formed in
    record {
      limits = sound.limits;
      well_formed = unplaced k.numbers (with_object k.state id o) empty
          (object_keeps k.numbers (with_pinned k.state empty) w id o named small young
          (w.serials.from_one id.0 there) (w.serials.to_last id.0 there));
    }

-- a sound store is so by its numbers and its state
sound-again : {m k : Machine} → k.numbers ≡ m.numbers → k.state ≡ m.state → IsSound m → IsSound k
sound-again {m} {k} numbers state sound =
    subst IsSound (λ i. record k { numbers = sym numbers i; state = sym state i }) (record {
      limits = sound.limits;
      well_formed = sound.well_formed;
    })

-- what holds of null and of what each register references holds of each field
each-field : {A : Type 0} (P : Option A → Type 0) (g : ℕ → Option A) → P None → ((r : ℕ) → P (g r))
    → (src : List ℕ) (i : ℕ) → P (get_or (map g src) i None)
each-field P g none each [] i = none
each-field P g none each (r ∷ src) zero = each r
each-field P g none each (r ∷ src) (suc i) = each-field P g none each src i

long : {A : Type 0} (g : ℕ → A) (src : List ℕ) → length (map g src) ≡ length src
long g [] = refl
long g (r ∷ src) = ap suc (long g src)

abbrev no_object : Object Id
no_object = record { fields = []; value = 0; generation = 0; registered = false }

-- the state with a new object of so many fields
abbrev with_fresh : Machine → ℕ → ℕ → Bool → State
with_fresh m caller n fin = with_serial (with_object m.state (identity_next m caller) (fresh_object n fin)) caller
    (last_serial m.state caller + 1)

module _ (m k : Machine) (caller : ℕ) (fin : Bool) (at : Addr) (n : ℕ)
    (made : k ≡ record m {
      state = with_fresh m caller n fin;
      names = insert m.names at.0 (identity_next m caller);
      heap = k.heap;
    }) where
  pub added-name : name_in k.names at ≡ identity_next m caller
  added-name =
      ap (λ (x : Machine). name_in x.names at) made
      ∙ ap (λ o. unwrap_or o (record { 0 = 0 })) (get_inserted m.names at.0 (identity_next m caller))

  pub added-object : object_by_id k.state (identity_next m caller) ≡ fresh_object n fin
  added-object =
      ap (λ (x : Machine). object_by_id x.state (identity_next m caller)) made
      ∙ ap (λ o. unwrap_or o no_object) (get_inserted m.state.objects (identity_next m caller).0 (fresh_object n fin))

  pub added-fields : (src : List ℕ) → n ≡ length src → length src ≡ length (object_named k at).fields
  added-fields src same =
      sym same ∙ sym (length-replicate {A = Option Id} n None)
      ∙ ap (λ (o : Object Id). length o.fields) (sym added-object)
      ∙ ap (λ x. length (object_by_id k.state x).fields) (sym added-name)

  pub added-with : {u : Machine} {value : ℕ} {src : List ℕ} → n ≡ length src → IsOverHeap k
      → KeepsNames m.names k.names → total_size m.state + (n + 3) ≤ m.numbers.heap
      → u ≡ record k {
        state = with_object k.state (name_in k.names at) (record (object_named k at) {
          fields = map (register_of k.state caller) src;
          value = value;
        });
        heap = u.heap;
      }
      → HasAdded m caller value fin src u at
  added-with {u} {value} {src} same over kept fits wrote = record {
    added = k;
    over = over;
    is = made
        ∙ ap (λ x. record m {
          state = with_fresh m caller x fin;
          names = insert m.names at.0 (identity_next m caller);
          heap = k.heap;
        }) same;
    kept = kept;
    fits = omega (arith, fits, same);
    written = wrote
        ∙ (λ j. record k {
          state = with_object k.state (added-name j) (record (object_by_id k.state (added-name j)) {
            fields = map (register_of k.state caller) src;
            value = value;
          });
          heap = u.heap;
        });
  }

module _ {m u : Machine} {caller value : ℕ} {fin : Bool} {src : List ℕ} {at : Addr}
    (has : HasAdded m caller value fin src u at) where
  pub filled-numbers : u.numbers ≡ m.numbers
  filled-numbers = ap (λ (x : Machine). x.numbers) has.written ∙ ap (λ (x : Machine). x.numbers) has.is

  pub filled-name : get u.names at.0 ≡ Some (identity_next m caller)
  filled-name =
      ap (λ (x : Machine). get x.names at.0) has.written ∙ ap (λ (x : Machine). get x.names at.0) has.is
      ∙ get_inserted m.names at.0 (identity_next m caller)

  pub filled-known : IsSome (get u.names at.0)
  filled-known = ap is_some filled-name

-- the object is there, its register has it, and then it is what it is
module _ {m k : Machine} {caller : ℕ} (d value : ℕ) (fin : Bool) (src : List ℕ) (sound : IsSound m)
    (known : caller < m.numbers.callers) (low : d < REGISTERS) (few : length src ≤ FIELDS)
    (serial : last_serial m.state caller + 1 < 2 ^ 32) (before : IsOverHeap m) (now : IsOverHeap k) where
  abbrev full : Outcome
  full = refuses (refusal.HeapFull (total_size m.state) (length src + 3)) m.state

  abbrev new_made : Outcome
  new_made = reply_with (reply.Object (identity_next m caller))
      (with_register (with_fresh m caller (length src) fin) caller d (Some (identity_next m caller)))

  abbrev is_full : Bool
  is_full = nat_lt m.numbers.heap (total_size m.state + (length src + 3))

  module _ (id : Id) (f : HasFilled m caller d value fin src k id) where
    h : HasAdded m caller value fin src f.filled f.at
    h = f.has

    abbrev next : Id
    next = identity_next m caller

    -- the store after the `new`
    abbrev mid : Machine
    mid = record h.added { state = with_register h.added.state caller d (Some next) }

    mid-over : IsOverHeap mid
    mid-over = record {
      names = h.over.names;
      heap = record {
        objects = h.over.heap.objects;
        identities = h.over.heap.identities;
        pinned = h.over.heap.pinned;
        cards = h.over.heap.cards;
      };
      table = record { rows = h.over.table.rows; uses = h.over.table.uses };
    }

    room : is_full ≡ false
    room = le-ltb m.numbers.heap (total_size m.state + (length src + 3)) h.fits

    came : ComesTo (new_object m.numbers m.state caller d (length src) fin) (seen_by (record m { names = mid.names }))
        (seen_by mid) (done_with reply.Object (Ok next))
    came = (
      ap (λ b. done_as (if b then full else new_made)) (sym room),
      (
        ap (λ (x : Machine). x.numbers) h.is,
        ap (λ (x : Machine). with_register x.state caller d (Some next)) h.is
            ∙ ap (λ b. (if b then full else new_made).after) (sym room),
        ap (λ (x : Machine). x.ages) h.is,
        refl,
        refl,
      ),
    )

    mid-sound : IsSound mid
    mid-sound = object-sound d (length src) fin (Ok next) sound refl known (low, few) serial before mid-over came
        h.kept

    mid-called : HasReturned m caller (cmd.New d (length src) fin) reply.Object mid (Ok next)
    mid-called = object-called d (length src) fin (Ok next) sound refl known (low, few) serial before mid-over came
        h.kept

    -- the object as it is then
    abbrev object : Object Id
    object = record (object_by_id mid.state next) { fields = map (register_of m.state caller) src; value = value }

    heap-is : f.filled.heap ≡ k.heap
    heap-is = sym (ap (λ (x : Machine). x.heap) f.held)

    name-is : name_in f.filled.names f.at ≡ next
    name-is = ap (λ o. unwrap_or o (record { 0 = 0 })) (filled-name h)

    written : k ≡ record mid { state = with_object mid.state next object; heap = k.heap }
    written =
        f.held
        ∙ (λ j. record (h.written j) {
          state = with_register (h.written j).state caller d (Some (name-is j));
          heap = heap-is j;
        })
        ∙ (λ j. record h.added {
          state = with_register (with_object h.added.state next (record (object_by_id h.added.state next) {
            fields = map (register_of (h.is j).state caller) src;
            value = value;
          })) caller d (Some next);
          heap = k.heap;
        })

    there : IsSome (get mid.state.objects next.0)
    there = ap (λ (x : Machine). is_some (get x.state.objects next.0)) h.is
        ∙ ap is_some (get_inserted m.state.objects next.0 (fresh_object (length src) fin))

    -- what had an object has one
    more : (q : ℕ) → IsSome (get m.state.objects q)
        → IsSome (get (with_object (with_pinned mid.state empty) next object).objects q)
    more q some = still_some mid.state.objects next.0 object q
        (subst (λ (x : Machine). IsSome (get x.state.objects q)) (sym h.is)
        (still_some m.state.objects next.0 (fresh_object (length src) fin) q some))

    named : (i : ℕ) → Names (with_object (with_pinned mid.state empty) next object) (field_of object i)
    named = each-field (Names (with_object (with_pinned mid.state empty) next object)) (register_of m.state caller) tt
        (λ r. names_more (with_pinned m.state empty) (with_object (with_pinned mid.state empty) next object) more
        (register_of m.state caller r) (sound.well_formed.names.registers caller r)) src

    young : object.generation ≤ OLDEST
    young = subst (λ (o : Object Id). o.generation ≤ OLDEST) (sym (added-object m h.added caller fin f.at (length src) h.is)) (omega arith)

    k-sound : IsSound k
    k-sound = sound-again {m = record mid { state = with_object mid.state next object }} {k = k}
        (ap (λ (x : Machine). x.numbers) written) (ap (λ (x : Machine). x.state) written)
        (sound-object mid next object mid-sound there named
        (let size = long (register_of m.state caller) src in omega (arith, size, few)) young)

    names-are : k.names ≡ h.added.names
    names-are = ap (λ (x : Machine). x.names) written

    addresses : (x : Id) (a : ℕ) → IsStoredAt mid.heap x a → IsStoredAt k.heap x a
    addresses x a is =
        sym (names-get k.heap a) ∙ ap (λ names. get names a) (sym now.names ∙ names-are ∙ h.over.names)
        ∙ names-get h.added.heap a ∙ is

    id-is : id ≡ next
    id-is = f.id_is ∙ ap (λ (x : Machine). name_in x.names f.at) f.held ∙ name-is

    made-object : HasMade m caller d value fin src k id
    made-object = subst (HasMade m caller d value fin src k) (sym id-is) (record {
      made = mid;
      called = mid-called;
      written = written;
      addresses = addresses;
    })

  -- where the heap is full
  module _ (why : Refusal) (f : Fills m caller d value fin src k (Err why)) where
    over_full : is_full ≡ true
    over_full = lt-ltb m.numbers.heap (total_size m.state + (length src + 3)) f.2

    refused-came : ComesTo (new_object m.numbers m.state caller d (length src) fin)
        (seen_by (record m { names = k.names })) (seen_by k) (done_with {T = Id} reply.Object (Err why))
    refused-came = (
      ap (λ w. replied (reply.Refused w)) f.1 ∙ ap (λ b. done_as (if b then full else new_made)) (sym over_full),
      (
        ap (λ (x : Machine). x.numbers) f.0,
        ap (λ (x : Machine). x.state) f.0 ∙ ap (λ b. (if b then full else new_made).after) (sym over_full),
        ap (λ (x : Machine). x.ages) f.0,
        refl,
        refl,
      ),
    )

    refused-object : HasReturned {T = Id} m caller (cmd.New d (length src) fin) reply.Object k (Err why)
    refused-object = object-called d (length src) fin (Err why) sound refl known (low, few) serial before now
        refused-came (λ a x is. ap (λ (y : Machine). get y.names a) f.0 ∙ is)

  fills-sound : (r : Result Id Refusal) → Fills m caller d value fin src k r → IsSound k
  fills-sound (Ok id) f = k-sound id f
  fills-sound (Err why) f = subst IsSound (sym f.0) sound

  fills-object : (r : Result Id Refusal) → Fills m caller d value fin src k r
      → MakesObject m caller d value fin src k r
  fills-object (Ok id) f = made-object id f
  fills-object (Err why) f = refused-object why f

-- the same of what a store has inside
module _ {m v k : Machine} {caller : ℕ} (d value : ℕ) (fin : Bool) (src : List ℕ) (r : Result Id Refusal)
    (sound : IsSound m) (view : m ≡ v) (known : caller < v.numbers.callers) (low : d < REGISTERS)
    (few : length src ≤ FIELDS) (serial : last_serial v.state caller + 1 < 2 ^ 32) (before : IsOverHeap m)
    (now : IsOverHeap k) (f : Fills m caller d value fin src k r) where
  small : last_serial m.state caller + 1 < 2 ^ 32
  small = subst (λ (x : Machine). last_serial x.state caller + 1 < 2 ^ 32) (sym view) serial

  pub object-made-sound : IsSound k
  object-made-sound = fills-sound d value fin src sound (known-in view known) low few small before now r f

  pub object-made : MakesObject v caller d value fin src k r
  object-made = subst (λ (x : Machine). MakesObject x caller d value fin src k r) view
      (fills-object d value fin src sound (known-in view known) low few small before now r f)

-- the value of what is found, by what it is found as
pub value-found : (s : State) {o p : Option Id} {v : ℕ} → p ≡ o → v ≡ value_of s p → v ≡ value_of s o
value-found s same is = is ∙ ap (value_of s) same
