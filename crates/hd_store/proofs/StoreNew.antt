-- A new object of a store: what the machine sees, and that the store keeps what it keeps.
use Rattle.hd_store.proofs.StoreWords.{Addr, Bool, Contains, HasNoEmptyRegion, Heap, Id, IsField, IsMade, IsObjectRefused, IsRoomier, IsStored, KeepsNames, List, Machine, None, not_there, Object, Option, Parts, Placed, Queue, Region, Some, T, age_of, ap, arith, callers_of, cases_eq, cells_of, cond, fields_in, fresh_object, generation_at, generation_in, get, get_beside, get_inserted, get_or, id_at, identity_of, inl, inr, insert, insert_cases, is_carded, is_in_use, is_object, is_some, last_serial, len, len-insert, length, length-replicate, length-set, machine_of, map, names_of, nat_cmp_total, new_object, object_at, object_in, objects_by_id, option_map, read_object, refl, region_at, region_generation, region_of, replicate, rest_of, rows_of, same_address, set, share, state_of, subst, suc, sum-insert, sum_by, sym, total_size, true, unheld, unwrap_or, used_of, values, with_object, with_serial, without_free, zero, ℕ, ◌+◌, ◌<◌, ◌∙◌, ◌∷◌, ◌≡◌, ◌≤◌, write_cases}
use Rattle.std.proofs.lemmas.Grind.{get_or_default_zero}
use Rattle.hd_heap.specs.{Calls.IsRefused as IsRefusedBy, declared.fault.NewFault.NewFault, declared.fault.NewFault.TheVariants.Full, declared.fault.NewFault.TheVariants.Memory}
use Rattle.hd_store.proofs.{StateCounts.used-is, HeapCallReadings.has-placed, QueueTake.stored-queued, EntryReadings.unheld-some, EntryReadings.tied-agrees}
use Rattle.hd_store.proofs.IdentityReadings.{no_some, names-get, objects-get}
use Rattle.hd_store.proofs.StoreAdd.{Adds, placed, id-add, names-add, identities-add, roots-add, queue-add, rows-add, weak-add, objects-add}

none_at : {A : Type 0} (n k : ℕ) (x : A) → k < n → get_or (replicate n None) k (Some x) ≡ Some x → ⊥
none_at zero k x within is = absurd (omega arith)
none_at (suc n) zero x within is = no_some x (sym is)
none_at (suc n) (suc k) x within is = none_at n k x (omega arith) is

pub no_names : {A : Type 0} (n : ℕ) (x : A) → Contains (replicate n None) (Some x) → ⊥
no_names {A} n x c = none_at n c.0 x (subst (λ size. c.0 < size) (length-replicate n None) c.1) c.2

pub nothing_mapped : {A B : Type 0} (f : A → B) (n : ℕ)
    → map (option_map f) (replicate n None) ≡ replicate n None
nothing_mapped f zero = refl
nothing_mapped f (suc n) = ap (λ xs. None ∷ xs) (nothing_mapped f n)

abbrev region_of_option : Option Region → ℕ
region_of_option o = (unwrap_or {T = Region} o (record { generation = 0; fill = 0 })).generation

module _ (f : Parts) (k : Heap) (at : Addr) (id : Id) (count : ℕ) (fin : Bool) (stored : IsStored f)
    (made : IsMade f.heap k at (new_object id count fin))
    (vacant : get (objects_by_id f.heap) id.0 ≡ None) where
  h : Heap
  h = f.heap

  new : Placed
  new = new_object id count fin

  put_at : k.objects ≡ insert f.heap.objects at.0 (new_object id count fin)
  put_at = ap (λ (g : Heap). g.objects) made.made
      ∙ ap (λ a. insert f.heap.objects a (new_object id count fin)) (sym made.address)

  -- an object that was there keeps its generation
  kept_generation : (b : Addr) → region_generation k (region_of b) ≡ region_generation f.heap (region_of b)
  kept_generation b =
      ap (λ (g : Heap). region_generation g (region_of b)) made.made
      ∙ write_cases f.heap.regions (region_of at)
      (λ o. region_of_option o ≡ region_generation f.heap (region_of b)) put_region (region_of b)
      (λ same. sym made.young ∙ ap (region_generation f.heap) (sym same)) refl
    where
      put_region : Region
      put_region = record {
        generation = 0;
        fill = (region_at f.heap (region_of at)).fill + cells_of (new_object id count fin);
      }

  was_none : get f.heap.objects at.0 ≡ None
  was_none = not_there (get f.heap.objects at.0) (sym (has-placed f.heap at) ∙ made.was_free)

  pub adds : Adds f.heap k at.0 (new_object id count fin)
  adds = record {
    vacant = was_none;
    fresh = λ b p is same. no_some (read_object f.heap b p)
        (sym (objects-get f.heap stored.identities b p is) ∙ ap (get (objects_by_id f.heap)) same ∙ vacant);
    objects = put_at;
    generations = λ b there. kept_generation b;
  }

  there : get k.objects at.0 ≡ Some (new_object id count fin)
  there = ap (λ m. get m at.0) put_at ∙ get_inserted f.heap.objects at.0 (new_object id count fin)

  elsewhere : (x : Addr) → (x.0 ≡ at.0 → ⊥) → get k.objects x.0 ≡ get f.heap.objects x.0
  elsewhere x apart = ap (λ m. get m x.0) put_at
      ∙ get_beside f.heap.objects at.0 (new_object id count fin) x.0 apart

  object_same : (x : Addr) → (x.0 ≡ at.0 → ⊥) → object_at k x ≡ object_at f.heap x
  object_same x apart =
      ap (option_map (object_in (region_generation k (region_of x)))) (elsewhere x apart)
      ∙ ap (λ g. option_map (object_in g) (get f.heap.objects x.0)) (kept_generation x)

  not_new : (x : Addr) → is_object (object_at f.heap) x ≡ true → x.0 ≡ at.0 → ⊥
  not_new x is same =
      subst T (sym (placed f.heap x is) ∙ ap (λ b. is_some (get f.heap.objects b)) same ∙ ap is_some was_none)
      tt

  still : (x : Addr) → is_object (object_at f.heap) x ≡ true → is_object (object_at k) x ≡ true
  still x is = ap is_some (object_same x (not_new x is)) ∙ is

  generation_same : (x : Addr) → is_object (object_at f.heap) x ≡ true
      → generation_at (object_at k) x ≡ generation_at (object_at f.heap) x
  generation_same x is = ap generation_in (object_same x (not_new x is))

  -- a field of the heap after was one before
  field_was : (x y : Addr) → IsField (object_at k) x y → (x.0 ≡ at.0 → ⊥) × IsField (object_at f.heap) x y
  field_was x y field =
      elim (cases_eq x.0 at.0) [
        | inl same ↦ absurd (no_names count y (subst (λ o. Contains (fields_in o) (Some y))
            (ap (object_at k) (same_address x at same)
            ∙ ap (option_map (object_in (region_generation k (region_of at)))) there) field))
        | inr apart ↦ (apart, subst (λ o. Contains (fields_in o) (Some y)) (object_same x apart) field)
      ]

  is_there : (x y : Addr) → IsField (object_at f.heap) x y → is_object (object_at f.heap) x ≡ true
  is_there x y field = by (object_at f.heap x) refl
    where
      by : (o : Option (Object Addr)) → object_at f.heap x ≡ o → is_object (object_at f.heap) x ≡ true
      by None is = let none = subst (λ o. Contains (fields_in o) (Some y)) is field in let low =
          none.1 in absurd (omega arith)
      by (Some o) is = ap is_some is

  used_more : used_of k ≡ used_of f.heap + (count + 3)
  used_more =
      let sum = sum-insert cells_of f.heap.objects at.0 (new_object id count fin) in
      let none : share cells_of (get f.heap.objects at.0) ≡ 0 = ap (share cells_of) was_none in
      let is : used_of k ≡ sum_by cells_of (values (insert f.heap.objects at.0 (new_object id count fin))) =
      ap (λ m. sum_by cells_of (values m)) put_at in
      let size : cells_of (new_object id count fin) ≡ count + 3 =
      ap (λ n. n + 3) (length-replicate count None) in
      omega (arith, sum, none, is, size)

  limit_same : k.limit ≡ f.heap.limit
  limit_same = ap (λ (g : Heap). g.limit) made.made

  cards_same : (x : Addr) → is_carded k x ≡ is_carded f.heap x
  cards_same x = ap (λ (g : Heap). is_carded g x) made.made

  len_more : len k.objects ≡ len f.heap.objects + 1
  len_more =
      ap len put_at ∙ len-insert nat_cmp_total f.heap.objects at.0 (new_object id count fin)
      ∙ ap (λ o. cond (is_some o) (len f.heap.objects) (len f.heap.objects + 1)) was_none

  held_was : (r : ℕ) → (r ≡ region_of at → ⊥) → is_in_use k r ≡ true → is_in_use f.heap r ≡ true
  held_was r apart held =
      ap is_some (sym (get_beside f.heap.regions (region_of at)
      (record {
        generation = 0;
        fill = (region_at f.heap (region_of at)).fill + cells_of (new_object id count fin);
      }) r apart))
      ∙ sym (ap (λ (g : Heap). is_in_use g r) made.made) ∙ held

  -- each region in use still has an object
  full_made : HasNoEmptyRegion k
  full_made r held =
      elim (cases_eq r (region_of at)) [
        | inl same ↦ record {
          at = at;
          object = ap (λ o. is_some (option_map (object_in (region_generation k (region_of at))) o)) there;
          region = sym same;
        }
        | inr apart ↦ let s = stored.full r (held_was r apart held) in
            record { at = s.at; object = still s.at s.object; region = s.region }
      ]

  -- the parts with the new object, another last serial and room for one more in the queue
  abbrev pub made_parts : List ℕ → Queue → Parts
  made_parts serials q = record f { heap = k; serials = serials; queue = q }

  pub stored-made : (serials : List ℕ) (q : Queue) → length serials ≡ length f.serials
      → q.queued ≡ f.queue.queued → len f.heap.objects + 1 ≤ q.room → IsStored (made_parts serials q)
  stored-made serials q size is_queued enough = record {
    whole = record {
      fields = λ x y field. still y (stored.whole.fields x y (field_was x y field).1);
      named = λ x c. still x (stored.whole.named x c);
      queue = λ x c. still x (stored.whole.queue x (subst (λ xs. Contains xs x) is_queued c));
      targets = λ slot row x is e. still x (stored.whole.targets slot row x is e);
      secondaries = λ slot row x is e. still x (stored.whole.secondaries slot row x is e);
      paired = stored.whole.paired;
      fits = stored.whole.fits;
    };
    identities = identities-add f.heap k at.0 (new_object id count fin) adds stored.identities;
    ages = record {
      targets = λ slot row x is e. subst (λ g. age_of f.ages slot ≤ g)
          (sym (generation_same x (stored.whole.targets slot row x is e)))
          (stored.ages.targets slot row x is e);
      secondaries = λ slot row x is e. subst (λ g. age_of f.ages slot ≤ g)
          (sym (generation_same x (stored.whole.secondaries slot row x is e)))
          (stored.ages.secondaries slot row x is e);
    };
    cards = λ x y field younger.
        let was = field_was x y field in
        let before = generation_same y (stored.whole.fields x y was.1) in
        let here = generation_same x (is_there x y was.1) in
        cards_same x ∙ stored.cards x y was.1 (omega arith);
    full = full_made;
    room = omega (arith, len_more, enough);
    within = let size : cells_of (new_object id count fin) ≡ count + 3 =
        ap (λ n. n + 3) (length-replicate count None) in
        omega (arith, used_more, limit_same, made.fits, size);
    limit = omega (arith, limit_same, stored.limit);
    roots = stored.roots;
    serials = size ∙ stored.serials;
    clumps = stored.clumps;
    blocks = stored.blocks;
    uses = stored.uses;
    tied = λ slot key is.
        let t = stored.tied slot key is in
        tied-agrees f (made_parts serials q) slot key t refl (λ x e.
        id-add f.heap k at.0 (new_object id count fin) adds x
        (placed f.heap x (stored.whole.targets slot _ x t.row e)));
    weak_room = stored.weak_room;
  }

  read_new : read_object k at.0 (new_object id count fin) ≡ fresh_object count fin
  read_new = λ i. record {
    fields = nothing_mapped (id_at k) count i;
    value = 0;
    generation = (kept_generation at ∙ made.young) i;
    registered = fin;
  }

  pub machine-made : (serials : List ℕ) (q : Queue) → q.queued ≡ f.queue.queued
      → machine_of (made_parts serials q)
      ≡ record (machine_of f) {
        state = record (with_object (state_of f) id (fresh_object count fin)) { serials = serials };
        names = insert (names_of f.heap) at.0 id;
        heap = without_free k;
      }
  machine-made serials q is_queued = λ i. record {
    numbers = record { heap = limit_same i; blocks = f.table.blocks; callers = callers_of f };
    state = record {
      objects =
          (objects-add f.heap k at.0 (new_object id count fin) adds stored.identities stored.whole.fields
          ∙ ap (insert (objects_by_id f.heap) id.0) read_new) i;
      handles = rows-add f.heap k at.0 (new_object id count fin) adds (unheld f.table.rows f.weak.held)
          (λ slot row x is. stored.whole.targets slot row x
          (unheld-some f.table.rows f.weak.held slot row is))
          (λ slot row x is. stored.whole.secondaries slot row x
          (unheld-some f.table.rows f.weak.held slot row is)) i;
      weak = weak-add f.heap k at.0 (new_object id count fin) adds f.table.rows f.weak.held
          stored.whole.secondaries i;
      registers = rows_of (callers_of f)
          (roots-add f.heap k at.0 (new_object id count fin) adds f.roots stored.whole.named i);
      handle_registers = f.handle_registers;
      statics = rest_of (callers_of f)
          (roots-add f.heap k at.0 (new_object id count fin) adds f.roots stored.whole.named i);
      board = f.board;
      queue = (ap (map (id_at k)) is_queued ∙ queue-add f.heap k at.0
          (new_object id count fin) adds f.queue.queued stored.whole.queue) i;
      pinned = (state_of f).pinned;
      blocks = f.table.uses;
      serials = serials;
    };
    names = names-add f.heap k at.0 (new_object id count fin) adds i;
    ages = f.ages;
    heap = without_free k;
    table = f.table;
  }

-- the serial of a caller's next object
pub serial-next : (f : Parts) (m : Machine) → machine_of f ≡ m → IsStored f → (caller last : ℕ)
    → caller < m.numbers.callers → last ≡ get_or f.serials caller last
    → last + 1 ≡ last_serial m.state caller + 1
serial-next f m view stored caller last known is =
    let callers : callers_of f ≡ m.numbers.callers = ap (λ (n : Machine). n.numbers.callers) view in
    let within : caller < length f.serials = omega (arith, known, callers, stored.serials) in
    ap (λ n. n + 1)
    (is ∙ get_or_default_zero f.serials caller last within
    ∙ ap (λ (n : Machine). last_serial n.state caller) view)

-- an object with a caller's next serial
module _ (f : Parts) (m : Machine) (view : machine_of f ≡ m) (stored : IsStored f) (k : Heap) (at : Addr)
    (id : Id) (count : ℕ) (fin : Bool) (made : IsMade f.heap k at (new_object id count fin))
    (caller serial : ℕ) (last : serial ≡ last_serial m.state caller + 1)
    (id_is : id ≡ identity_of caller serial)
    (vacant : get m.state.objects (identity_of caller (last_serial m.state caller + 1)).0 ≡ None) (q : Queue)
    (is_queued : q.queued ≡ f.queue.queued) (enough : len f.heap.objects + 1 ≤ q.room) where
  free : get (objects_by_id f.heap) id.0 ≡ None
  free =
      ap (λ (i : Id). get (objects_by_id f.heap) i.0) (id_is ∙ ap (identity_of caller) last)
      ∙ ap (λ (n : Machine). get n.state.objects (identity_of caller (last_serial m.state caller + 1)).0) view
      ∙ vacant

  pub stored-next : IsStored (record f { heap = k; serials = set f.serials caller serial; queue = q })
  stored-next = stored-made f k at id count fin stored made free (set f.serials caller serial) q
      (length-set f.serials caller serial) is_queued enough

  -- the address of the new object had no identity
  pub names-next : KeepsNames m.names
      (insert m.names at.0 (identity_of caller (last_serial m.state caller + 1)))
  names-next a x =
      insert_cases m.names at.0 (λ j o. get m.names j ≡ Some x → o ≡ Some x)
      (identity_of caller (last_serial m.state caller + 1)) a
      (λ is. absurd (no_some x (sym is ∙ ap (λ (n : Machine). get n.names at.0) (sym view)
      ∙ names-get f.heap at.0
      ∙ ap (option_map (λ (p : Placed). p.id)) (adds f k at id count fin stored made free).vacant)))
      (λ _ is. is)

  pub machine-next : machine_of (record f { heap = k; serials = set f.serials caller serial; queue = q })
      ≡ record m {
        state = with_serial (with_object m.state (identity_of caller (last_serial m.state caller + 1))
            (fresh_object count fin)) caller (last_serial m.state caller + 1);
        names = insert m.names at.0 (identity_of caller (last_serial m.state caller + 1));
        heap = without_free k;
      }
  machine-next =
      machine-made f k at id count fin stored made free (set f.serials caller serial) q is_queued
      ∙ (λ i. record (view i) {
        state = with_serial (with_object (view i).state ((id_is ∙ ap (identity_of caller) last) i)
            (fresh_object count fin)) caller (last i);
        names = insert (view i).names at.0 ((id_is ∙ ap (identity_of caller) last) i);
        heap = without_free k;
      })

-- more room in the queue changes nothing else
module _ (f : Parts) (m : Machine) (view : machine_of f ≡ m) (stored : IsStored f) (k : Heap)
    (same : k ≡ f.heap) (q : Queue) (more : IsRoomier f.queue q) where
  pub machine-room : machine_of (record f { heap = k; queue = q }) ≡ m
  machine-room =
      (λ i. machine_of (record f { heap = same i; queue = record q { queued = more.0 i } })) ∙ view

  pub stored-room : IsStored (record f { heap = k; queue = q })
  stored-room =
      subst (λ h. IsStored (record f { heap = h; queue = q })) (sym same)
      (stored-queued f q stored (λ x c. subst (λ xs. Contains xs x) more.0 c)
      (omega (arith, stored.room, more.1)))

-- a refused object, in the words of the machine
module _ (f : Parts) (m : Machine) (view : machine_of f ≡ m) (stored : IsStored f) (k : Heap) (q : Queue)
    (more : IsRoomier f.queue q) where
  cells_are : used_of f.heap ≡ total_size m.state
  cells_are = sym (used-is f.heap stored.identities) ∙ ap (λ (n : Machine). total_size n.state) view

  limit_is : f.heap.limit ≡ m.numbers.heap
  limit_is = ap (λ (n : Machine). n.numbers.heap) view

  pub refused-next : (cells : ℕ) (fault : NewFault) → IsRefusedBy f.heap k cells fault
      → IsObjectRefused m (machine_of (record f { heap = k; queue = q })) cells fault
  refused-next cells (Full used size) refused = (
    machine-room f m view stored k refused.0 q more,
    refused.1 ∙ cells_are,
    refused.2,
    omega (arith, refused.3, cells_are, limit_is),
  )
  refused-next cells Memory refused =
      (machine-room f m view stored k refused.0 q more, omega (arith, refused.1, cells_are, limit_is))

  refused_same : (cells : ℕ) (fault : NewFault) → IsRefusedBy f.heap k cells fault → k ≡ f.heap
  refused_same cells (Full used size) refused = refused.0
  refused_same cells Memory refused = refused.0

  pub stored-refused : (cells : ℕ) (fault : NewFault) → IsRefusedBy f.heap k cells fault
      → IsStored (record f { heap = k; queue = q })
  stored-refused cells fault refused = stored-room f m view stored k (refused_same cells fault refused) q more
