-- One more object in a heap: the readings of all else stay.
use Rattle.hd_store.proofs.StoreWords.{Addr, Contains, FinMap, Handle, HasIdentities, Heap, Id, IsField, IsSome, List, None, Option, Placed, Some, T, ap, entry_named, fields_in, get, get_beside, get_inserted, id_at, id_in, insert, is_object, is_some, map, names_of, nat_cmp, object_at, object_in, objects_by_id, option_map, read_object, refl, region_generation, region_of, rename_handle, rename_object, rows_by_id, secondary_of, subst, sym, true, weak_by_id, ℕ, ◌∙◌, ◌≡◌, insert_cases}
use Rattle.hd_store.proofs.{EntryMaps.same_numbers, HeapCallReadings.has-placed, EntryReadings.weak-get}
use Rattle.hd_store.proofs.NameAgreement.{object_agrees, handle_agrees}
use Rattle.hd_model.proofs.SceneReadings.{list_agrees, names_agree, option_agrees}
use Rattle.hd_store.proofs.IdentityReadings.{no_some, names-get, rows-get, put-beside, Puts, identities-put, objects-put}

-- the heap k is h with one more object, whose identity none has
pub record Adds (h k : Heap) (a : ℕ) (new : Placed) : Type 0 where
  pub vacant : get h.objects a ≡ None
  pub fresh : (b : ℕ) (p : Placed) → get h.objects b ≡ Some p → p.id.0 ≡ new.id.0 → ⊥
  pub objects : k.objects ≡ insert h.objects a new
  pub generations : (b : Addr) → IsSome (get h.objects b.0)
      → region_generation k (region_of b) ≡ region_generation h (region_of b)

pub placed : (h : Heap) (x : Addr) → is_object (object_at h) x ≡ true → is_some (get h.objects x.0) ≡ true
placed h x e = sym (has-placed h x) ∙ e

module _ (h k : Heap) (a : ℕ) (new : Placed) (r : Adds h k a new) where
  elsewhere : (b : ℕ) → (b ≡ a → ⊥) → get k.objects b ≡ get h.objects b
  elsewhere = put-beside h k a new r.objects

  puts : Puts h k a new
  puts = record {
    objects = r.objects;
    was = λ p is. absurd (no_some p (sym is ∙ r.vacant));
    fresh = λ b p apart is same. r.fresh b p is same;
  }

  other : (b : ℕ) → is_some (get h.objects b) ≡ true → b ≡ a → ⊥
  other b there same = subst T (sym there ∙ ap (λ c. is_some (get h.objects c)) same ∙ ap is_some r.vacant) tt

  -- every address that has an object has the identity that it had
  pub id-add : (b : Addr) → is_some (get h.objects b.0) ≡ true → id_at k b ≡ id_at h b
  id-add b there = ap id_in (elsewhere b.0 (other b.0 there))

  pub names-add : names_of k ≡ insert (names_of h) a new.id
  names-add =
      same_numbers _ _ (λ b. names-get k b ∙ ap (λ m. option_map (λ (p : Placed). p.id) (get m b)) r.objects
      ∙ insert_cases h.objects a
      (λ j o. option_map (λ (p : Placed). p.id) o ≡ get (insert (names_of h) a new.id) j) new b
      (sym (get_inserted (names_of h) a new.id))
      (λ apart. sym (names-get h b) ∙ sym (get_beside (names_of h) a new.id b apart)))

  pub identities-add : HasIdentities h → HasIdentities k
  identities-add = identities-put h k a new puts

  -- references to objects of h are read as they were
  pub roots-add : (names : List (Option Addr))
      → ((x : Addr) → Contains names (Some x) → is_object (object_at h) x ≡ true)
      → map (option_map (id_at k)) names ≡ map (option_map (id_at h)) names
  roots-add names whole = names_agree (id_at k) (id_at h) names (λ x c. id-add x (placed h x (whole x c)))

  pub queue-add : (names : List Addr) → ((x : Addr) → Contains names x → is_object (object_at h) x ≡ true)
      → map (id_at k) names ≡ map (id_at h) names
  queue-add names whole = list_agrees (id_at k) (id_at h) names (λ x c. id-add x (placed h x (whole x c)))

  row_same : (o : Option (Handle Addr))
      → ((row : Handle Addr) (x : Addr) → o ≡ Some row → row.target ≡ Some x
      → is_object (object_at h) x ≡ true)
      → ((row : Handle Addr) (x : Addr) → o ≡ Some row → secondary_of row.extra ≡ Some x
      → is_object (object_at h) x ≡ true) → option_map (rename_handle (id_at k)) o ≡ option_map
      (rename_handle (id_at h)) o
  row_same None targets seconds = refl
  row_same (Some row) targets seconds =
      ap Some (handle_agrees (id_at k) (id_at h) row (λ x is. id-add x (placed h x (targets row x refl is)))
      (λ x is. id-add x (placed h x (seconds row x refl is))))

  pub rows-add : (rows : FinMap nat_cmp (Handle Addr))
      → ((slot : ℕ) (row : Handle Addr) (x : Addr) → get rows slot ≡ Some row → row.target ≡ Some x
      → is_object (object_at h) x ≡ true)
      → ((slot : ℕ) (row : Handle Addr) (x : Addr) → get rows slot ≡ Some row
      → secondary_of row.extra ≡ Some x → is_object (object_at h) x ≡ true)
      → rows_by_id k rows ≡ rows_by_id h rows
  rows-add rows targets seconds =
      same_numbers (rows_by_id k rows) (rows_by_id h rows) (λ slot.
      rows-get k rows slot ∙ row_same (get rows slot) (targets slot) (seconds slot)
      ∙ sym (rows-get h rows slot))

  value_same : (o : Option (Handle Addr))
      → ((row : Handle Addr) (x : Addr) → o ≡ Some row → secondary_of row.extra ≡ Some x
      → is_object (object_at h) x ≡ true) → (key : Option Id)
      → entry_named (id_at k) o key ≡ entry_named (id_at h) o key
  value_same o seconds None = refl
  value_same None seconds (Some key) = refl
  value_same (Some row) seconds (Some key) =
      ap (λ v. Some (record { key = key; value = v }))
      (option_agrees (id_at k) (id_at h) (secondary_of row.extra)
      (λ x is. id-add x (placed h x (seconds row x refl is))))

  pub weak-add : (rows : FinMap nat_cmp (Handle Addr)) (held : FinMap nat_cmp (Option Id))
      → ((slot : ℕ) (row : Handle Addr) (x : Addr) → get rows slot ≡ Some row
      → secondary_of row.extra ≡ Some x → is_object (object_at h) x ≡ true)
      → weak_by_id k rows held ≡ weak_by_id h rows held
  weak-add rows held seconds =
      same_numbers (weak_by_id k rows held) (weak_by_id h rows held) (λ slot.
      weak-get k rows held slot
      ∙ (λ i. option_map (λ key. value_same (get rows slot) (seconds slot) key i) (get held slot))
      ∙ sym (weak-get h rows held slot))

  -- what is stored at an address of h is read as it was
  read-add : ((x y : Addr) → IsField (object_at h) x y → is_object (object_at h) y ≡ true)
      → (b : ℕ) (p : Placed) → get h.objects b ≡ Some p → read_object k b p ≡ read_object h b p
  read-add whole b p is =
      let at : Addr = record { 0 = b } in
      let before = region_generation h (region_of at) in
      let after = region_generation k (region_of at) in
      object_agrees (id_at k) (id_at h) (object_in after p) (λ x c. id-add x (placed h x (whole at x
      (subst (λ (o : Option Placed). Contains (fields_in (option_map (object_in before) o)) (Some x))
      (sym is) c))))
      ∙ ap (λ g. rename_object (id_at h) (object_in g p)) (r.generations at (ap is_some is))

  -- and the objects by identity have the new one too
  pub objects-add : HasIdentities h
      → ((x y : Addr) → IsField (object_at h) x y → is_object (object_at h) y ≡ true)
      → objects_by_id k ≡ insert (objects_by_id h) new.id.0 (read_object k a new)
  objects-add identities whole = objects-put h k a new puts identities (read-add whole)
