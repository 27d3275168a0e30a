-- A field of an object of a store is written through the barrier.
use Rattle.hd_store.proofs.StoreWords.{Addr, Bool, Contains, Heap, Id, IfSome, IsField, IsNamed, IsSome, IsStored, List, Machine, Object, Option, Parts, Placed, Some, T, ap, arith, card_of, cases_eq, eq-eqb, eq_by_cmp, false, fields_in, generation_at, get, get_or, get_or-set_other, get_or-set_same, has_object, id_at, if◌then◌else◌, inl, inr, is_younger, length, length-set, lt-ltb, machine_of, map, map-set, name_in, named_in, nat_cmp, nat_cmp_total, object_at, object_named, option_map, placed_at, read_object, refl, set, subst, sym, true, unsigned_tied, with_field, with_object, without_free, ℕ, ◌<◌, ◌||◌, ◌∙◌, ◌≡◌, ◌⊎◌}
use Rattle.hd_heap.specs.Calls.{stored as with_stored}
use Rattle.hd_store.proofs.{IdentityReadings.named-is, HeapCallReadings.placed_is, HeapCallReadings.object_is, HeapCallReadings.in_heap, HeapCallReadings.named_objects, StoreWrite.Writes, StoreWrite.stored-write, StoreWrite.with_heap, StoreWrite.written}
use Rattle.std.specs.FinSet as set

-- what is in a list with one item written
pub contains_set : {A : Type 0} (xs : List A) (i : ℕ) (v x : A) → Contains (set xs i v) x
    → Contains xs x ⊎ (v ≡ x)
contains_set xs i v x c =
    let lt = c.1 in
    let long = length-set xs i v in
    let within : c.0 < length xs = omega arith in
    elim (cases_eq c.0 i) [
      | inl same ↦ inr (sym (get_or-set_same xs i v x (subst (λ j. j < length xs) same within))
          ∙ ap (λ j. get_or (set xs i v) j x) (sym same) ∙ c.2)
      | inr apart ↦ inl (c.0, within, sym (get_or-set_other xs i c.0 v x apart) ∙ c.2)
    ]

-- a card stays set, and the one of the object is set where the barrier asks for it
still_set : (b : Bool) (s : set.FinSet nat_cmp) (card c : ℕ) → set.contains s c ≡ true
    → set.contains (if b then set.insert s card else s) c ≡ true
still_set true s card c is = set.contains-insert nat_cmp_total s card c
    ∙ ap (λ t. eq_by_cmp nat_cmp c card || t) is ∙ or_true (eq_by_cmp nat_cmp c card)
  where
    or_true : (b : Bool) → (b || true) ≡ true
    or_true true = refl
    or_true false = refl
still_set false s card c is = is

now_set : (b : Bool) (s : set.FinSet nat_cmp) (card : ℕ) → b ≡ true
    → set.contains (if b then set.insert s card else s) card ≡ true
now_set true s card is =
    set.contains-insert nat_cmp_total s card card
    ∙ ap (λ t. t || set.contains s card) (unsigned_tied card card ∙ eq-eqb card card refl)
now_set false s card is = absurd (subst T (sym is) tt)

younger_is : (h : Heap) (at y : Addr) (v : Option Addr) → v ≡ Some y
    → generation_at (object_at h) y < generation_at (object_at h) at → is_younger h at v ≡ true
younger_is h at y v is younger =
    ap (is_younger h at) is ∙ lt-ltb (generation_at (object_at h) y) (generation_at (object_at h) at) younger

module _ (f : Parts) (stored : IsStored f) (at : Addr) (known : has_object f.heap at ≡ true) (i : ℕ)
    (v : Option Addr) (named : IfSome v (λ y. has_object f.heap y ≡ true)) where
  abbrev pub field_new : Placed
  field_new = with_field (placed_at f.heap at) i v

  was_field : (y : Addr) → Contains (placed_at f.heap at).fields (Some y) → IsField (object_at f.heap) at y
  was_field y c = subst (λ o. Contains (fields_in o) (Some y)) (sym (object_is f.heap at known)) c

  pub writes_field : Writes f.heap (with_stored f.heap at i v) at (placed_at f.heap at) field_new
  writes_field = record {
    replaces = record { was = placed_is f.heap at known; same = refl; objects = refl; regions = refl };
    limit = refl;
    size = length-set (placed_at f.heap at).fields i v;
    names = λ y c. elim (contains_set (placed_at f.heap at).fields i v (Some y) c) [
      | inl was ↦ stored.whole.fields at y (was_field y was)
      | inr is ↦ subst (λ o. IfSome o (λ z. has_object f.heap z ≡ true)) is named
    ];
    carded = λ x e. still_set (is_younger f.heap at v) f.heap.cards (card_of at) (card_of x) e;
    needed = λ y c younger. elim (contains_set (placed_at f.heap at).fields i v (Some y) c) [
      | inl was ↦ still_set (is_younger f.heap at v) f.heap.cards (card_of at) (card_of at)
          (stored.cards at y (was_field y was) younger)
      | inr is ↦ now_set (is_younger f.heap at v) f.heap.cards (card_of at)
          (younger_is f.heap at y v is younger)
    ];
  }

  -- the machine's object with the field written
  pub reads_field : (m : Machine) → machine_of f ≡ m → read_object f.heap at.0 field_new
      ≡ (λ (o : Object Id). record o { fields = set o.fields i (named_in m.names v) })
      (read_object f.heap at.0 (placed_at f.heap at))
  reads_field m view =
      (λ k. record (read_object f.heap at.0 (placed_at f.heap at)) {
        fields = map-set (option_map (id_at f.heap)) (placed_at f.heap at).fields i v k;
      })
      ∙ (λ k. record (read_object f.heap at.0 (placed_at f.heap at)) {
        fields = set (map (option_map (id_at f.heap)) (placed_at f.heap at).fields) i
            ((sym (named-is f.heap v) ∙ ap (λ (n : Machine). named_in n.names v) view) k);
      })

-- such a write, as the store and the machine have it
pub field-written : (f : Parts) (m : Machine) → machine_of f ≡ m → IsStored f → (at : Addr)
    → IsSome (get m.names at.0) → (i : ℕ) (v : Option Addr) → IsNamed m.names v → (k : Heap)
    → k ≡ with_stored f.heap at i v → IsStored (with_heap f k) × (machine_of (with_heap f k)
    ≡ record m {
      state = with_object m.state (name_in m.names at) (record (object_named m at) {
        fields = set (object_named m at).fields i (named_in m.names v);
      });
      heap = without_free k;
    })
field-written f m view stored at known i v named k made =
    let there = in_heap f m view stored at known in
    let target = named_objects f.heap v (subst (λ (n : Machine). IsNamed n.names v) (sym view) named) in
    let new = field_new f stored at there i v target in
    let w : Writes f.heap k at (placed_at f.heap at) new =
    subst (λ h. Writes f.heap h at (placed_at f.heap at) new) (sym made)
    (writes_field f stored at there i v target) in (
      stored-write f k at (placed_at f.heap at) new w stored,
      written f m view stored at known k new w
          (λ o. record o { fields = set o.fields i (named_in m.names v) })
          (reads_field f stored at there i v target m view),
    )
