-- What the calls of a heap return, in the words of the store.
use Rattle.hd_store.proofs.StoreWords.{Addr, Contains, Contains-get_or, Heap, Id, IfSome, Inside, IsNamed, IsSome, IsStored, List, Machine, None, Object, Option, Parts, Placed, Some, T, [], ap, false, field_of, fields_at, fields_in, generation_at, generation_in, get, get_or, has_object, id_at, id_in, is_some, length, length-map, machine_of, map, name_in, named_in, names_of, object_at, object_by_id, object_in, object_named, option_map, parts, placed_at, read_object, refl, region_generation, region_of, state_of, subst, suc, sym, true, unwrap_or, zero, ℕ, ◌<◌, ◌∙◌, ◌∷◌, ◌≡◌}
use Rattle.hd_store.proofs.IdentityReadings.{is_some-map, names-get, name-is, named-is, objects-get}

-- an address that has an identity has an object, and the other way round
pub named-placed : (h : Heap) (at : Addr) → is_some (get (names_of h) at.0) ≡ is_some (get h.objects at.0)
named-placed h at =
    ap is_some (names-get h at.0) ∙ is_some-map (λ (p : Placed). p.id) (get h.objects at.0)

pub has-placed : (h : Heap) (at : Addr) → has_object h at ≡ is_some (get h.objects at.0)
has-placed h at = is_some-map (object_in (region_generation h (region_of at))) (get h.objects at.0)

pub known_object : (h : Heap) (at : Addr) → IsSome (get (names_of h) at.0) → has_object h at ≡ true
known_object h at known = has-placed h at ∙ sym (named-placed h at) ∙ known

pub object_known : (h : Heap) (at : Addr) → has_object h at ≡ true → IsSome (get (names_of h) at.0)
object_known h at known = named-placed h at ∙ sym (has-placed h at) ∙ known

pub named_objects : (h : Heap) (v : Option Addr) → IsNamed (names_of h) v
    → IfSome v (λ y. has_object h y ≡ true)
named_objects h None named = named
named_objects h (Some y) named = known_object h y named

pub objects_named : (h : Heap) (v : Option Addr) → ((y : Addr) → v ≡ Some y → has_object h y ≡ true)
    → IsNamed (names_of h) v
objects_named h None each = tt
objects_named h (Some y) each = object_known h y (each y refl)

pub some_or : {A : Type 0} (o : Option A) (d : A) → is_some o ≡ true → o ≡ Some (unwrap_or o d)
some_or None d e = absurd (subst T (sym e) tt)
some_or (Some x) d e = refl

-- what is stored at the address of an object
pub placed_is : (h : Heap) (at : Addr) → has_object h at ≡ true → get h.objects at.0 ≡ Some (placed_at h at)
placed_is h at known = some_or (get h.objects at.0)
    (record { id = record { 0 = 0 }; fields = []; value = 0; registered = false })
    (sym (has-placed h at) ∙ known)

pub object_is : (h : Heap) (at : Addr) → has_object h at ≡ true
    → object_at h at ≡ Some (object_in (region_generation h (region_of at)) (placed_at h at))
object_is h at known = ap (option_map (object_in (region_generation h (region_of at)))) (placed_is h at known)

module _ (f : Parts) where
  pub id_of : (at : Addr) → has_object f.heap at ≡ true
      → name_in (names_of f.heap) at ≡ (placed_at f.heap at).id
  id_of at known = name-is f.heap at ∙ ap id_in (placed_is f.heap at known)

  -- the object at an address, as the machine has it
  pub object-named : IsStored f → (at : Addr) → has_object f.heap at ≡ true
      → object_named (machine_of f) at ≡ read_object f.heap at.0 (placed_at f.heap at)
  object-named stored at known =
      ap (λ (x : Id). object_by_id (state_of f) x) (id_of at known)
      ∙ ap (λ o. unwrap_or o (record { fields = []; value = 0; generation = 0; registered = false }))
      (objects-get f.heap stored.identities at.0 (placed_at f.heap at) (placed_is f.heap at known))

-- field i of an object that is read
pub field-read : (g : Addr → Id) (fields : List (Option Addr)) (i : ℕ)
    → get_or (map (option_map g) fields) i None ≡ option_map g (get_or fields i None)
field-read g [] i = refl
field-read g (v ∷ fields) zero = refl
field-read g (v ∷ fields) (suc i) = field-read g fields i

-- what is stored at an address of a store
module _ (f : Parts) (m : Machine) (view : machine_of f ≡ m) (stored : IsStored f) (at : Addr)
    (known : IsSome (get m.names at.0)) where
  pub in_heap : has_object f.heap at ≡ true
  in_heap = known_object f.heap at (subst (λ (n : Machine). IsSome (get n.names at.0)) (sym view) known)

  it : Placed
  it = placed_at f.heap at

  pub named_object : object_named m at ≡ read_object f.heap at.0 (placed_at f.heap at)
  named_object = ap (λ (n : Machine). object_named n at) (sym view) ∙ object-named f stored at in_heap

  pub identity-is : (placed_at f.heap at).id ≡ name_in m.names at
  identity-is = sym (id_of f at in_heap) ∙ ap (λ (n : Machine). name_in n.names at) view

  fields_are : fields_at (object_at f.heap) at ≡ (placed_at f.heap at).fields
  fields_are = ap fields_in (object_is f.heap at in_heap)

  pub count-is : length (fields_at (object_at f.heap) at) ≡ length (object_named m at).fields
  count-is =
      ap length fields_are ∙ sym (length-map (placed_at f.heap at).fields (option_map (id_at f.heap)))
      ∙ ap (λ (o : Object Id). length o.fields) (sym named_object)

  pub value-is : (placed_at f.heap at).value ≡ (object_named m at).value
  value-is = ap (λ (o : Object Id). o.value) (sym named_object)

  pub generation-is : generation_at (object_at f.heap) at ≡ (object_named m at).generation
  generation-is = ap generation_in (object_is f.heap at in_heap)
      ∙ ap (λ (o : Object Id). o.generation) (sym named_object)

  pub field-is : (i : ℕ) → named_in m.names (get_or (fields_at (object_at f.heap) at) i None) ≡ field_of
      (object_named m at) i
  field-is i =
      ap (λ (n : Machine). named_in n.names (get_or (fields_at (object_at f.heap) at) i None)) (sym view)
      ∙ named-is f.heap (get_or (fields_at (object_at f.heap) at) i None)
      ∙ ap (λ xs. option_map (id_at f.heap) (get_or xs i None)) fields_are
      ∙ sym (field-read (id_at f.heap) (placed_at f.heap at).fields i)
      ∙ ap (λ (o : Object Id). field_of o i) (sym named_object)

  pub field-named : (i : ℕ) → i < length (object_named m at).fields
      → IsNamed m.names (get_or (fields_at (object_at f.heap) at) i None)
  field-named i within =
      subst (λ (n : Machine). IsNamed n.names (get_or (fields_at (object_at f.heap) at) i None)) view
      (objects_named f.heap (get_or (fields_at (object_at f.heap) at) i None) (λ y is.
      stored.whole.fields at y (subst (λ o. Contains (fields_at (object_at f.heap) at) o) is
      (Contains-get_or (fields_at (object_at f.heap) at) i None (subst (λ n. i < n) (sym count-is) within)))))

-- the same of what a store has inside, for what a call of its heap returns
module _ (i : Inside) (m : Machine) (view : machine_of (parts i) ≡ m) (stored : IsStored (parts i))
    (at : Addr) (known : IsSome (get m.names at.0)) where
  pub known-in : has_object i.heap at ≡ true
  known-in = in_heap (parts i) m view stored at known

  pub id-in : (x : Id) → x ≡ (placed_at i.heap at).id → x ≡ name_in m.names at
  id-in x is = is ∙ identity-is (parts i) m view stored at known

  pub count-in : (n : ℕ) → n ≡ length (fields_at (object_at i.heap) at)
      → n ≡ length (object_named m at).fields
  count-in n is = is ∙ count-is (parts i) m view stored at known

  pub value-in : (v : ℕ) → v ≡ (placed_at i.heap at).value → v ≡ (object_named m at).value
  value-in v is = is ∙ value-is (parts i) m view stored at known

  pub generation-in : (g : ℕ) → g ≡ generation_at (object_at i.heap) at → g ≡ (object_named m at).generation
  generation-in g is = is ∙ generation-is (parts i) m view stored at known

pub ruleset object_reads = (known-in, id-in, count-in, value-in, generation-in)
