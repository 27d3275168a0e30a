-- Another object with the same identity at an address of a store: what the machine sees, and that the store
-- keeps what it keeps.
use Rattle.hd_store.proofs.StoreWords.{Addr, Contains, HasNoEmptyRegion, HasSoundCards, Heap, Id, IsField, IsSome, IsStored, Machine, Object, Parts, Placed, Some, age_of, ap, arith, callers_of, cases_eq, cells_of, cond, fields_in, generation_at, generation_in, get, get_beside, get_inserted, has_object, inl, inr, insert, is_carded, is_in_use, is_object, is_some, len, len-insert, length, machine_of, map, name_in, nat_cmp_total, object_at, object_in, object_named, option_map, placed_at, read_object, refl, region_generation, region_of, rest_of, rows_of, same_address, share, state_of, subst, sum-insert, sum_by, sym, true, unheld, used_of, values, with_object, without_free, ℕ, ◌+◌, ◌<◌, ◌∙◌, ◌≡◌, ◌≤◌, ◌⊎◌}
use Rattle.hd_heap.specs.Calls.{with_object as with_placed}
use Rattle.hd_store.proofs.HeapCallReadings.{in_heap, placed_is, object_is, identity-is, named_object}
use Rattle.hd_store.proofs.IdentityReadings.{Replaces, ids-replace, names-replace, rows-replace, weak-replace, identities-replace, objects-replace}
use Rattle.hd_store.proofs.EntryReadings.{tied-agrees}

-- the heap k is h with another object of the same size at an address, which references objects, and with the
-- cards that it needs
pub record Writes (h k : Heap) (at : Addr) (old new : Placed) : Type 0 where
  pub replaces : Replaces h k at.0 old new
  pub limit : k.limit ≡ h.limit
  pub size : length new.fields ≡ length old.fields
  pub names : (y : Addr) → Contains new.fields (Some y) → is_object (object_at h) y ≡ true
  pub carded : (x : Addr) → is_carded h x ≡ true → is_carded k x ≡ true
  pub needed : (y : Addr) → Contains new.fields (Some y)
      → generation_at (object_at h) y < generation_at (object_at h) at → is_carded k at ≡ true

module _ (h k : Heap) (at : Addr) (old new : Placed) (w : Writes h k at old new) where
  r : Replaces h k at.0 old new
  r = w.replaces

  there : get k.objects at.0 ≡ Some new
  there = ap (λ m. get m at.0) r.objects ∙ get_inserted h.objects at.0 new

  elsewhere : (x : Addr) → (x.0 ≡ at.0 → ⊥) → get k.objects x.0 ≡ get h.objects x.0
  elsewhere x apart = ap (λ m. get m x.0) r.objects ∙ get_beside h.objects at.0 new x.0 apart

  region_same : (x : Addr) → region_generation k (region_of x) ≡ region_generation h (region_of x)
  region_same x = ap (λ rs. region_generation (record h { regions = rs }) (region_of x)) r.regions

  -- elsewhere the objects are the same
  object_same : (x : Addr) → (x.0 ≡ at.0 → ⊥) → object_at k x ≡ object_at h x
  object_same x apart =
      ap (λ o. option_map (object_in (region_generation k (region_of x))) o) (elsewhere x apart)
      ∙ ap (λ g. option_map (object_in g) (get h.objects x.0)) (region_same x)

  object_there : object_at k at ≡ Some (object_in (region_generation h (region_of at)) new)
  object_there =
      ap (λ o. option_map (object_in (region_generation k (region_of at))) o) there
      ∙ ap (λ g. Some (object_in g new)) (region_same at)

  object_was : object_at h at ≡ Some (object_in (region_generation h (region_of at)) old)
  object_was = ap (option_map (object_in (region_generation h (region_of at)))) r.was

  pub is-object : (x : Addr) → is_object (object_at k) x ≡ is_object (object_at h) x
  is-object x =
      elim (cases_eq x.0 at.0) [
        | inl same ↦ ap (λ a. is_object (object_at k) a) (same_address x at same) ∙ ap is_some object_there
            ∙ sym (ap is_some object_was)
            ∙ ap (λ a. is_object (object_at h) a) (sym (same_address x at same))
        | inr apart ↦ ap is_some (object_same x apart)
      ]

  pub generation-same : (x : Addr) → generation_at (object_at k) x ≡ generation_at (object_at h) x
  generation-same x =
      elim (cases_eq x.0 at.0) [
        | inl same ↦ ap (λ a. generation_at (object_at k) a) (same_address x at same)
            ∙ ap generation_in object_there ∙ sym (ap generation_in object_was)
            ∙ ap (λ a. generation_at (object_at h) a) (sym (same_address x at same))
        | inr apart ↦ ap generation_in (object_same x apart)
      ]

  -- a field of k references what a field of h did, or is in the object that is written
  field_from : (x y : Addr) → IsField (object_at k) x y
      → IsField (object_at h) x y ⊎ ((x ≡ at) × Contains new.fields (Some y))
  field_from x y field =
      elim (cases_eq x.0 at.0) [
        | inl same ↦ inr (
          same_address x at same,
          subst (λ o. Contains (fields_in o) (Some y))
              (ap (object_at k) (same_address x at same) ∙ object_there) field,
        )
        | inr apart ↦ inl (subst (λ o. Contains (fields_in o) (Some y)) (object_same x apart) field)
      ]

  pub fields-whole : ((x y : Addr) → IsField (object_at h) x y → is_object (object_at h) y ≡ true)
      → (x y : Addr) → IsField (object_at k) x y → is_object (object_at k) y ≡ true
  fields-whole whole x y field =
      elim (field_from x y field) [
        | inl before ↦ is-object y ∙ whole x y before
        | inr here ↦ is-object y ∙ w.names y here.1
      ]

  pub cards-sound : HasSoundCards (object_at h) (is_carded h) → HasSoundCards (object_at k) (is_carded k)
  cards-sound sound x y field younger =
      let before : generation_at (object_at h) y < generation_at (object_at h) x =
      omega (arith, generation-same x, generation-same y, younger) in
      elim (field_from x y field) [
        | inl was ↦ w.carded x (sound x y was before)
        | inr here ↦ subst (λ a. is_carded k a ≡ true) (sym here.0)
            (w.needed y here.1
            (subst (λ a. generation_at (object_at h) y < generation_at (object_at h) a) here.0 before))
      ]

  pub used-same : used_of k ≡ used_of h
  used-same =
      let sum = sum-insert cells_of h.objects at.0 new in
      let was : share cells_of (get h.objects at.0) ≡ cells_of old = ap (share cells_of) r.was in
      let is : used_of k ≡ sum_by cells_of (values (insert h.objects at.0 new)) =
      ap (λ m. sum_by cells_of (values m)) r.objects in
      omega (arith, sum, was, is, w.size)

-- the parts with another heap
abbrev pub with_heap : Parts → Heap → Parts
with_heap f k = record f { heap = k }

module _ (f : Parts) (k : Heap) (at : Addr) (old new : Placed) (w : Writes f.heap k at old new)
    (stored : IsStored f) where
  held_same : (r : ℕ) → is_in_use k r ≡ is_in_use f.heap r
  held_same r = ap (λ rs. is_in_use (record f.heap { regions = rs }) r) w.replaces.regions

  full_write : HasNoEmptyRegion k
  full_write r held =
      let s = stored.full r (sym (held_same r) ∙ held) in
      record { at = s.at; object = is-object f.heap k at old new w s.at ∙ s.object; region = s.region }

  len_same : len k.objects ≡ len f.heap.objects
  len_same =
      ap len w.replaces.objects ∙ len-insert nat_cmp_total f.heap.objects at.0 new
      ∙ ap (λ o. cond (is_some o) (len f.heap.objects) (len f.heap.objects + 1)) w.replaces.was

  pub stored-write : IsStored (with_heap f k)
  stored-write =
      let h = f.heap in
      record {
        whole = record {
          fields = fields-whole h k at old new w stored.whole.fields;
          named = λ x c. is-object h k at old new w x ∙ stored.whole.named x c;
          queue = λ x c. is-object h k at old new w x ∙ stored.whole.queue x c;
          targets = λ slot row x is target. is-object h k at old new w x
              ∙ stored.whole.targets slot row x is target;
          secondaries = λ slot row x is second. is-object h k at old new w x
              ∙ stored.whole.secondaries slot row x is second;
          paired = stored.whole.paired;
          fits = stored.whole.fits;
        };
        identities = identities-replace h k at.0 old new w.replaces stored.identities;
        ages = record {
          targets = λ slot row x is target. subst (λ g. age_of f.ages slot ≤ g)
              (sym (generation-same h k at old new w x)) (stored.ages.targets slot row x is target);
          secondaries = λ slot row x is second. subst (λ g. age_of f.ages slot ≤ g)
              (sym (generation-same h k at old new w x)) (stored.ages.secondaries slot row x is second);
        };
        cards = cards-sound h k at old new w stored.cards;
        full = full_write;
        room = omega (arith, len_same, stored.room);
        within = omega (arith, used-same h k at old new w, w.limit, stored.within);
        limit = omega (arith, w.limit, stored.limit);
        roots = stored.roots;
        serials = stored.serials;
        clumps = stored.clumps;
        blocks = stored.blocks;
        uses = stored.uses;
        tied = λ slot key is. tied-agrees f (with_heap f k) slot key (stored.tied slot key is) refl
            (λ x e. ap (λ g. g x) (ids-replace h k at.0 old new w.replaces));
        weak_room = stored.weak_room;
      }

  -- the machine sees another object with that identity, and nothing else
  pub machine-write : machine_of (with_heap f k)
      ≡ record (machine_of f) {
        state = with_object (state_of f) old.id (read_object f.heap at.0 new);
        heap = without_free k;
      }
  machine-write =
      let h = f.heap in
      λ i. record {
        numbers = record { heap = w.limit i; blocks = f.table.blocks; callers = callers_of f };
        state = record {
          objects = objects-replace h k at.0 old new w.replaces stored.identities i;
          handles = rows-replace h k at.0 old new w.replaces (unheld f.table.rows f.weak.held) i;
          weak = weak-replace h k at.0 old new w.replaces f.table.rows f.weak.held i;
          registers =
              rows_of (callers_of f) (map (option_map (ids-replace h k at.0 old new w.replaces i)) f.roots);
          handle_registers = f.handle_registers;
          statics =
              rest_of (callers_of f) (map (option_map (ids-replace h k at.0 old new w.replaces i)) f.roots);
          board = f.board;
          queue = map (ids-replace h k at.0 old new w.replaces i) f.queue.queued;
          pinned = (state_of f).pinned;
          blocks = f.table.uses;
          serials = f.serials;
        };
        names = names-replace h k at.0 old new w.replaces i;
        ages = f.ages;
        heap = without_free k;
        table = f.table;
      }

-- the machine sees the object at an address changed
pub written : (f : Parts) (m : Machine) (view : machine_of f ≡ m) (stored : IsStored f) (at : Addr)
    (known : IsSome (get m.names at.0)) (k : Heap) (new : Placed)
    → Writes f.heap k at (placed_at f.heap at) new → (change : Object Id → Object Id)
    → read_object f.heap at.0 new ≡ change (read_object f.heap at.0 (placed_at f.heap at))
    → machine_of (with_heap f k)
    ≡ record m {
      state = with_object m.state (name_in m.names at) (change (object_named m at));
      heap = without_free k;
    }
written f m view stored at known k new w change is =
    machine-write f k at (placed_at f.heap at) new w stored
    ∙ (λ i. record (view i) {
      state = with_object (view i).state (identity-is f m view stored at known i)
          ((is ∙ ap change (sym (named_object f m view stored at known))) i);
      heap = without_free k;
    })

-- a write that leaves the fields and the cards
writes_beside : (f : Parts) (stored : IsStored f) (at : Addr) → has_object f.heap at ≡ true
    → (new : Placed) → new.id ≡ (placed_at f.heap at).id → new.fields ≡ (placed_at f.heap at).fields
    → Writes f.heap (with_placed f.heap at new) at (placed_at f.heap at) new
writes_beside f stored at known new same fields =
    let is-field : (y : Addr) → Contains new.fields (Some y) → IsField (object_at f.heap) at y =
    λ y c. subst (λ o. Contains (fields_in o) (Some y)) (sym (object_is f.heap at known))
    (subst (λ xs. Contains xs (Some y)) fields c) in
    record {
      replaces = record { was = placed_is f.heap at known; same = same; objects = refl; regions = refl };
      limit = refl;
      size = ap length fields;
      names = λ y c. stored.whole.fields at y (is-field y c);
      carded = λ x e. e;
      needed = λ y c younger. stored.cards at y (is-field y c) younger;
    }

-- such a write, as the store and the machine have it
pub written-beside : (f : Parts) (m : Machine) → machine_of f ≡ m → IsStored f → (at : Addr)
    → IsSome (get m.names at.0) → (new : Placed) → new.id ≡ (placed_at f.heap at).id
    → new.fields ≡ (placed_at f.heap at).fields → (change : Object Id → Object Id)
    → read_object f.heap at.0 new ≡ change (read_object f.heap at.0 (placed_at f.heap at))
    → (k : Heap) → k ≡ with_placed f.heap at new → IsStored (with_heap f k) × (machine_of (with_heap f k)
    ≡ record m {
      state = with_object m.state (name_in m.names at) (change (object_named m at));
      heap = without_free k;
    })
written-beside f m view stored at known new same fields change is k made =
    let w : Writes f.heap k at (placed_at f.heap at) new =
    subst (λ h. Writes f.heap h at (placed_at f.heap at) new) (sym made)
    (writes_beside f stored at (in_heap f m view stored at known) new same fields) in (
      stored-write f k at (placed_at f.heap at) new w stored,
      written f m view stored at known k new w change is,
    )
