-- A new object of a store with its value and its fields: one without them, which then gets them.
use Rattle.hd_store.proofs.StoreWords.{Addr, Bool, Contains, Heap, Id, IsMade, IsStored, KeepsNames, List, Machine, None, Object, Option, Parts, Placed, Region, Some, [], ap, arith, cells_of, drop, false, fresh_object, generation_at, generation_in, get, get_inserted, get_or, get_or_default, id_at, identity_of, if◌then◌else◌, insert, is_in_use, is_some, last_serial, len, length, length-map, length-replicate, machine_of, map, new_object, object_at, object_in, option_map, placed_at, put_twice, read_object, refl, region_at, region_generation, region_of, register_of, set, subst, suc, sym, total_size, unwrap_or, used_of, with_object, with_serial, without_free, ℕ, ◌*◌, ◌+◌, ◌<◌, ◌∙◌, ◌∷◌, ◌≡◌, ◌≤◌}
use Rattle.hd_heap.proofs.FieldFill.{contains_read}
use Rattle.hd_heap.specs.Calls.{filled_object, with_object as with_placed, with_put}
use Rattle.hd_model.proofs.Members.{mapped_from}
use Rattle.hd_model.specs.declared.limits.TheConstants.{HEADER, REGION, REGISTERS}
use Rattle.hd_store.specs.Hosted.{HasAdded, identity_next}
use Rattle.hd_store.proofs.{HostedCalls.added-with, IdentityReadings.named-is, HeapCallReadings.has-placed, HeapCallReadings.object_known, RootAccess.register-is, RootAccess.register-within, StateCounts.used-is, StateHeap.over-heap, StoreNew.machine-next, StoreNew.names-next, StoreNew.stored-next, StoreWrite.Writes, StoreWrite.stored-write, StoreWrite.written}

module _ (f : Parts) (m : Machine) (view : machine_of f ≡ m) (stored : IsStored f) (k : Heap) (at : Addr)
    (id : Id) (value : ℕ) (fin : Bool) (src : List ℕ) (caller serial : ℕ)
    (made : IsMade f.heap k at (filled_object id value fin f.roots (REGISTERS * caller) src))
    (known : caller < m.numbers.callers) (sources : (i : ℕ) → i < length src → get_or src i 0 < REGISTERS)
    (last : serial ≡ last_serial m.state caller + 1) (id_is : id ≡ identity_of caller serial)
    (vacant : get m.state.objects (identity_of caller (last_serial m.state caller + 1)).0 ≡ None)
    (enough : len f.heap.objects + 1 ≤ f.queue.room) where
  -- the object, and the one without them
  abbrev new : Placed
  new = filled_object id value fin f.roots (REGISTERS * caller) src

  abbrev blank : Placed
  blank = new_object id (length src) fin

  long : length new.fields ≡ length src
  long = length-map src (λ i. get_or f.roots (REGISTERS * caller + i) None)

  blank-long : length blank.fields ≡ length src
  blank-long = length-replicate (length src) None

  size : cells_of new ≡ cells_of blank
  size = ap (λ n. n + HEADER) (long ∙ sym blank-long)

  -- the heap between
  abbrev mid : Heap
  mid = record (with_put f.heap (region_of at) 0 blank) {
    free = if is_in_use f.heap (region_of at) then f.heap.free else drop 1 f.heap.free;
  }

  blank-made : IsMade f.heap mid at blank
  blank-made = record {
    fits = omega (arith, made.fits, long, blank-long);
    address = made.address;
    was_free = made.was_free;
    young = made.young;
    full = made.full;
    first = made.first;
    made = refl;
  }

  abbrev put : ℕ
  put = region_of at * REGION + (region_at f.heap (region_of at)).fill

  there : get mid.objects at.0 ≡ Some blank
  there = ap (get mid.objects) made.address ∙ get_inserted f.heap.objects put blank

  k-is : k ≡ with_placed mid at new
  k-is = made.made ∙ (λ j. record mid {
    objects = (sym (put_twice f.heap.objects put blank new)
        ∙ ap (λ q. insert (insert f.heap.objects put blank) q new) (sym made.address)) j;
    regions = insert f.heap.regions (region_of at)
        (record { generation = 0; fill = (region_at f.heap (region_of at)).fill + size j });
  })

  -- the store between, and what the machine then sees
  abbrev fm : Parts
  fm = record f { heap = mid; serials = set f.serials caller serial }

  abbrev added : Machine
  added = machine_of fm

  stored-mid : IsStored fm
  stored-mid = stored-next f m view stored mid at id (length src) fin blank-made caller serial last id_is vacant
      f.queue refl enough

  added-is : added ≡ record m {
    state = with_serial (with_object m.state (identity_next m caller) (fresh_object (length src) fin)) caller
        (last_serial m.state caller + 1);
    names = insert m.names at.0 (identity_next m caller);
    heap = without_free mid;
  }
  added-is = machine-next f m view stored mid at id (length src) fin blank-made caller serial last id_is vacant
      f.queue refl enough

  -- what its fields reference, a root references; and it is of generation 0
  is-root : (y : Addr) → Contains new.fields (Some y) → Contains f.roots (Some y)
  is-root y c =
      let (i, rest) = mapped_from (λ i. get_or f.roots (REGISTERS * caller + i) None) src (Some y) c in
      contains_read f.roots (REGISTERS * caller + i) y rest.1

  young : generation_at (object_at mid) at ≡ 0
  young = ap (λ o. generation_in (option_map (object_in (region_generation mid (region_of at))) o)) there
      ∙ ap (λ (o : Option Region). (unwrap_or o (record { generation = 0; fill = 0 })).generation)
      (get_inserted f.heap.regions (region_of at)
      (record { generation = 0; fill = (region_at f.heap (region_of at)).fill + cells_of blank }))

  blank-writes : Writes mid (with_placed mid at new) at blank new
  blank-writes = record {
    replaces = record { was = there; same = refl; objects = refl; regions = refl };
    limit = refl;
    size = long ∙ sym blank-long;
    names = λ y c. stored-mid.whole.named y (is-root y c);
    carded = λ x e. e;
    needed = λ y c younger. absurd (omega (arith, younger, young));
  }

  was : placed_at mid at ≡ blank
  was = ap (λ o. unwrap_or o (record { id = record { 0 = 0 }; fields = []; value = 0; registered = false })) there

  writes : Writes mid k at (placed_at mid at) new
  writes = subst (λ o. Writes mid k at o new) (sym was)
      (subst (λ h. Writes mid h at blank new) (sym k-is) blank-writes)

  -- how it is read
  reads : (i : ℕ) → i < REGISTERS → option_map (id_at mid) (get_or f.roots (REGISTERS * caller + i) None)
      ≡ register_of added.state caller i
  reads i low =
      let x = get_or f.roots (REGISTERS * caller + i) None in
      let row : caller < added.numbers.callers =
      subst (λ (n : Machine). caller < n.numbers.callers) (sym view) known in
      sym (named-is mid x)
      ∙ register-is fm added refl stored-mid caller i x row low
      (get_or_default f.roots (REGISTERS * caller + i) None x
      (register-within fm added refl stored-mid caller i row low))

  fields-read : (rs : List ℕ) → ((i : ℕ) → i < length rs → get_or rs i 0 < REGISTERS)
      → map (option_map (id_at mid)) (map (λ i. get_or f.roots (REGISTERS * caller + i) None) rs)
      ≡ map (register_of added.state caller) rs
  fields-read [] low = refl
  fields-read (r ∷ rs) low =
      λ j. reads r (low 0 (omega arith)) j ∷ fields-read rs (λ i below. low (suc i) (omega (arith, below))) j

  abbrev change : Object Id → Object Id
  change o = record o { fields = map (register_of added.state caller) src; value = value }

  read-new : read_object mid at.0 new ≡ change (read_object mid at.0 (placed_at mid at))
  read-new = λ j. record (read_object mid at.0 (sym was j)) { fields = fields-read src sources j; value = value }

  kept : KeepsNames m.names added.names
  kept = subst (λ (x : Machine). KeepsNames m.names x.names) (sym added-is)
      (names-next f m view stored mid at id (length src) fin blank-made caller serial last id_is vacant f.queue refl
      enough)

  fits : total_size m.state + (length src + 3) ≤ m.numbers.heap
  fits =
      let used : used_of f.heap ≡ total_size m.state = sym (used-is f.heap stored.identities)
      ∙ ap (λ (n : Machine). total_size n.state) view in
      let limit : f.heap.limit ≡ m.numbers.heap = ap (λ (n : Machine). n.numbers.heap) view in
      omega (arith, made.fits, used, limit, long)

  -- what is left is as it has to be
  pub filled-next : let after : Parts = record f { heap = k; serials = set f.serials caller serial } in
      IsStored after × HasAdded m caller value fin src (machine_of after) at
  filled-next = (
    stored-write fm k at (placed_at mid at) new writes stored-mid,
    added-with m added caller fin at (length src) added-is refl (over-heap fm added refl stored-mid) kept fits
        (written fm added refl stored-mid at
        (object_known mid at (has-placed mid at ∙ ap is_some there)) k new writes change read-new),
  )
