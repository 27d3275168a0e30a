-- How a heap, its rows and its roots read by identity, and how that changes with the heap.
use Rattle.hd_store.proofs.StoreWords.{Addr, FinMap, Handle, HasIdentities, Heap, Id, None, Object, Option, Placed, Some, T, ap, cases_eq, entries, entry_named, from_entries, get, get_beside, get_inserted, id_at, id_in, inl, inr, insert, is_some, map, name_in, named_in, names_of, nat_cmp, object_in, objects_by_id, option_map, read_object, refl, region_of, rename_handle, rename_object, rows_by_id, same_Some, subst, sym, unwrap_or, weak_by_id, ℕ, ◌∙◌, ◌≡◌, write_cases}
use Rattle.hd_store.proofs.EntryMaps.{same_numbers, get-mapped, Under, AreApart, under, get-rekeyed}

pub no_some : {A : Type 0} (x : A) → Some x ≡ None → ⊥
no_some x e = subst T (ap is_some e) tt

pub is_some-map : {A B : Type 0} (g : A → B) (o : Option A) → is_some (option_map g o) ≡ is_some o
is_some-map g None = refl
is_some-map g (Some x) = refl

pub same_id : (x y : Id) → x.0 ≡ y.0 → x ≡ y
same_id x y e = λ i. record { 0 = e i }

-- the identities of the addresses
pub names-get : (h : Heap) (a : ℕ) → get (names_of h) a ≡ option_map (λ (p : Placed). p.id) (get h.objects a)
unfolding names_of
names-get h a = get-mapped (λ a p. p.id) h.objects a

by_id : (o : Option Placed) → unwrap_or (option_map (λ (p : Placed). p.id) o) (record { 0 = 0 }) ≡ id_in o
by_id None = refl
by_id (Some p) = refl

pub name-is : (h : Heap) (a : Addr) → name_in (names_of h) a ≡ id_at h a
name-is h a = ap (λ o. unwrap_or o (record { 0 = 0 })) (names-get h a.0) ∙ by_id (get h.objects a.0)

pub names-are : (h : Heap) → name_in (names_of h) ≡ id_at h
names-are h = λ i a. name-is h a i

pub named-is : (h : Heap) (o : Option Addr) → named_in (names_of h) o ≡ option_map (id_at h) o
named-is h o = ap (λ f. option_map f o) (names-are h)

-- the rows by identity
pub rows-get : (h : Heap) (rows : FinMap nat_cmp (Handle Addr)) (slot : ℕ)
    → get (rows_by_id h rows) slot ≡ option_map (rename_handle (id_at h)) (get rows slot)
unfolding rows_by_id
rows-get h rows slot = get-mapped (λ slot row. rename_handle (id_at h) row) rows slot

-- the objects by identity
pub apart_by_number : (h : Heap) → HasIdentities h → AreApart (λ (p : Placed). p.id.0) h.objects
apart_by_number h identities a b p q first second same =
    identities a b p q first second (same_id p.id q.id same)

pub objects-get : (h : Heap) → HasIdentities h → (a : ℕ) (p : Placed) → get h.objects a ≡ Some p
    → get (objects_by_id h) p.id.0 ≡ Some (read_object h a p)
unfolding objects_by_id
objects-get h identities a p is =
    get-rekeyed (λ (p : Placed). p.id.0) (read_object h) h.objects (apart_by_number h identities) a p is

pub objects-under : (h : Heap) (x : ℕ) (o : Object Id) → get (objects_by_id h) x ≡ Some o
    → Under (λ (p : Placed). p.id.0) (read_object h) h.objects x o
unfolding objects_by_id
objects-under h x o is = under (λ (p : Placed). p.id.0) (read_object h) h.objects x o is

-- an object with an identity
pub record HasObjectOf (h : Heap) (x : ℕ) : Type 0 where
  pub at : ℕ
  pub value : Placed
  pub is_stored : get h.objects at ≡ Some value
  pub named : value.id.0 ≡ x

-- a map with each object's reading at its identity, and at no other key, is the objects by identity
pub objects-are : (h : Heap) (m : FinMap nat_cmp (Object Id)) → HasIdentities h
    → ((a : ℕ) (p : Placed) → get h.objects a ≡ Some p → get m p.id.0 ≡ Some (read_object h a p))
    → ((x : ℕ) (o : Object Id) → get m x ≡ Some o → HasObjectOf h x) → objects_by_id h ≡ m
objects-are h m identities each only =
    same_numbers (objects_by_id h) m (λ x. by x (get (objects_by_id h) x) (get m x) refl refl)
  where
    by : (x : ℕ) (o p : Option (Object Id)) → get (objects_by_id h) x ≡ o → get m x ≡ p
        → get (objects_by_id h) x ≡ get m x
    by x None None first second = first ∙ sym second
    by x None (Some p) first second =
        let s = only x p second in
        absurd (no_some (read_object h s.at s.value)
        (sym (objects-get h identities s.at s.value s.is_stored) ∙ ap (get (objects_by_id h)) s.named
        ∙ first))
    by x (Some o) p first second =
        let u = objects-under h x o first in
        first ∙ ap Some u.is ∙ sym (each u.at u.value u.is_stored) ∙ ap (get m) u.keyed

-- the heap k is h with an object at an address, whose identity no object elsewhere has, and which has the
-- identity of what was there
pub record Puts (h k : Heap) (a : ℕ) (new : Placed) : Type 0 where
  pub objects : k.objects ≡ insert h.objects a new
  pub was : (p : Placed) → get h.objects a ≡ Some p → p.id ≡ new.id
  pub fresh : (b : ℕ) (p : Placed) → (b ≡ a → ⊥) → get h.objects b ≡ Some p → p.id.0 ≡ new.id.0 → ⊥

module _ (h k : Heap) (a : ℕ) (new : Placed) (objects : k.objects ≡ insert h.objects a new) where
  pub put-here : get k.objects a ≡ Some new
  put-here = ap (λ m. get m a) objects ∙ get_inserted h.objects a new

  pub put-beside : (b : ℕ) → (b ≡ a → ⊥) → get k.objects b ≡ get h.objects b
  put-beside b apart = ap (λ m. get m b) objects ∙ get_beside h.objects a new b apart

module _ (h k : Heap) (a : ℕ) (new : Placed) (r : Puts h k a new) where
  at_put : get k.objects a ≡ Some new
  at_put = put-here h k a new r.objects

  off_put : (b : ℕ) → (b ≡ a → ⊥) → get k.objects b ≡ get h.objects b
  off_put = put-beside h k a new r.objects

  pub identities-put : HasIdentities h → HasIdentities k
  identities-put identities b c p q first second same =
      elim (cases_eq b a) [
        | inl here ↦ elim (cases_eq c a) [
          | inl there ↦ here ∙ sym there
          | inr apart ↦
              let it : new ≡ p = same_Some new p (sym at_put ∙ ap (get k.objects) (sym here) ∙ first) in
              absurd (r.fresh c q apart (sym (off_put c apart) ∙ second)
              (ap (λ (i : Id). i.0) (sym same) ∙ ap (λ (o : Placed). o.id.0) (sym it)))
        ]
        | inr away ↦ elim (cases_eq c a) [
          | inl there ↦
              let it : new ≡ q = same_Some new q (sym at_put ∙ ap (get k.objects) (sym there) ∙ second) in
              absurd (r.fresh b p away (sym (off_put b away) ∙ first)
              (ap (λ (i : Id). i.0) same ∙ ap (λ (o : Placed). o.id.0) (sym it)))
          | inr apart ↦ identities b c p q (sym (off_put b away) ∙ first)
              (sym (off_put c apart) ∙ second) same
        ]
      ]

  abbrev after : FinMap nat_cmp (Object Id)
  after = insert (objects_by_id h) new.id.0 (read_object k a new)

  -- where all others are read as before, the objects by identity have that one too
  pub objects-put : HasIdentities h
      → ((b : ℕ) (p : Placed) → get h.objects b ≡ Some p → read_object k b p ≡ read_object h b p)
      → objects_by_id k ≡ after
  objects-put identities read = objects-are k after (identities-put identities) each only
    where
      each : (b : ℕ) (p : Placed) → get k.objects b ≡ Some p → get after p.id.0 ≡ Some (read_object k b p)
      each b p is =
          elim (cases_eq b a) [
            | inl here ↦
                let it : new ≡ p = same_Some new p (sym at_put ∙ ap (get k.objects) (sym here) ∙ is) in
                ap (λ (q : Placed). get after q.id.0) (sym it)
                ∙ get_inserted (objects_by_id h) new.id.0 (read_object k a new)
                ∙ ap Some (ap (λ c. read_object k c new) (sym here) ∙ ap (read_object k b) it)
            | inr apart ↦
                let before : get h.objects b ≡ Some p = sym (off_put b apart) ∙ is in
                get_beside (objects_by_id h) new.id.0 (read_object k a new) p.id.0 (r.fresh b p apart before)
                ∙ objects-get h identities b p before ∙ ap Some (sym (read b p before))
          ]

      only : (x : ℕ) (o : Object Id) → get after x ≡ Some o → HasObjectOf k x
      only x o is =
          elim (cases_eq x new.id.0) [
            | inl here ↦ record { at = a; value = new; is_stored = at_put; named = sym here }
            | inr apart ↦
                let u = objects-under h x o
                (sym (get_beside (objects_by_id h) new.id.0 (read_object k a new) x apart) ∙ is) in
                record {
                  at = u.at;
                  value = u.value;
                  is_stored = off_put u.at (λ here. apart (sym u.keyed ∙ ap (λ (i : Id). i.0)
                      (r.was u.value (ap (get h.objects) (sym here) ∙ u.is_stored)))) ∙ u.is_stored;
                  named = u.keyed;
                }
          ]

-- the readings of two heaps with the same identities and regions
read_same : (h k : Heap) → id_at k ≡ id_at h → k.regions ≡ h.regions → read_object k ≡ read_object h
read_same h k ids regions = λ i a p. rename_object (ids i)
    (object_in
    ((unwrap_or (get (regions i) (region_of (record { 0 = a })))
    (record { generation = 0; fill = 0 })).generation) p)

-- the heap k is h with another object of the same identity at an address
pub record Replaces (h k : Heap) (a : ℕ) (old new : Placed) : Type 0 where
  pub was : get h.objects a ≡ Some old
  pub same : new.id ≡ old.id
  pub objects : k.objects ≡ insert h.objects a new
  pub regions : k.regions ≡ h.regions

module _ (h k : Heap) (a : ℕ) (old new : Placed) (r : Replaces h k a old new) where
  id_same : (b : ℕ) → id_in (get k.objects b) ≡ id_in (get h.objects b)
  id_same b =
      ap (λ m. id_in (get m b)) r.objects
      ∙ write_cases h.objects a (λ o. id_in o ≡ id_in (get h.objects b)) new b
      (λ is. r.same ∙ sym (ap id_in r.was) ∙ ap (λ c. id_in (get h.objects c)) (sym is)) refl

  -- every address has the identity that it had
  pub ids-replace : id_at k ≡ id_at h
  ids-replace = λ i b. id_same b.0 i

  name_same : (b : ℕ) → option_map (λ (p : Placed). p.id) (get k.objects b) ≡ option_map
      (λ (p : Placed). p.id) (get h.objects b)
  name_same b =
      let name : Option Placed → Option Id = option_map (λ (p : Placed). p.id) in
      ap (λ m. name (get m b)) r.objects
      ∙ write_cases h.objects a (λ o. name o ≡ name (get h.objects b)) new b
      (λ is. ap Some r.same ∙ sym (ap name r.was) ∙ ap (λ c. name (get h.objects c)) (sym is)) refl

  pub names-replace : names_of k ≡ names_of h
  names-replace = same_numbers (names_of k) (names_of h)
      (λ b. names-get k b ∙ name_same b ∙ sym (names-get h b))

  pub rows-replace : (rows : FinMap nat_cmp (Handle Addr)) → rows_by_id k rows ≡ rows_by_id h rows
  rows-replace rows =
      same_numbers (rows_by_id k rows) (rows_by_id h rows) (λ slot.
      rows-get k rows slot ∙ ap (λ f. option_map (rename_handle f) (get rows slot)) ids-replace
      ∙ sym (rows-get h rows slot))

  pub weak-replace : (rows : FinMap nat_cmp (Handle Addr)) (held : FinMap nat_cmp (Option Id))
      → weak_by_id k rows held ≡ weak_by_id h rows held
  unfolding weak_by_id
  weak-replace rows held = λ i. from_entries {R = nat_cmp} (map (λ (e : ℕ × Option Id).
      (e.0, entry_named (ids-replace i) (get rows e.0) e.1)) (entries held))

  puts : HasIdentities h → Puts h k a new
  puts identities = record {
    objects = r.objects;
    was = λ p is. ap (λ (q : Placed). q.id) (same_Some p old (sym is ∙ r.was)) ∙ sym r.same;
    fresh = λ b p apart is same.
        apart (identities b a p old is r.was (same_id p.id old.id (same ∙ ap (λ (i : Id). i.0) r.same)));
  }

  pub identities-replace : HasIdentities h → HasIdentities k
  identities-replace identities = identities-put h k a new (puts identities) identities

  -- and the objects by identity have the new one in place of the old
  pub objects-replace : HasIdentities h → objects_by_id k ≡ insert (objects_by_id h) old.id.0
      (read_object h a new)
  objects-replace identities =
      let read = read_same h k ids-replace r.regions in
      objects-put h k a new (puts identities) identities (λ b p is. ap (λ f. f b p) read)
      ∙ (λ i. insert (objects_by_id h) (r.same i).0 (read i a new))
