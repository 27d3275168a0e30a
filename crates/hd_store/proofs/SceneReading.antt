-- The state of a store is a reading of what its collection reads.
use Rattle.hd_store.proofs.StoreWords.{Addr, HasIdentities, Id, IsReading, IsStored, List, Parts, Placed, Scene, Some, ap, append_assoc, callers_of, drop, get, has_object, id_at, id_in, is_object, is_some, joined, map, object_at, object_in, objects_by_id, option_map, placed_at, refl, region_generation, region_of, rename_handle, rename_object, rest_of, rows_of, scene_of, scene_of_parts, some_value, state_of, suc, sym, take, take-append-drop, true, zero, ℕ, ◌++◌, ◌∙◌, ◌≡◌}
use Rattle.hd_store.proofs.IdentityReadings.{same_id, objects-get, objects-under}
use Rattle.hd_store.proofs.{EntryReadings.row-reads, HeapCallReadings.placed_is, HeapCallReadings.object_is}
use Rattle.hd_model.specs.declared.limits.TheConstants.{REGISTERS}

-- all registers and then the statics are the roots
pub rows-all : {A : Type 0} (n : ℕ) (xs : List A) → joined (rows_of n xs) ++ rest_of n xs ≡ xs
unfolding rows_of rest_of
rows-all zero xs = refl
rows-all (suc n) xs =
    append_assoc (take REGISTERS xs) (joined (rows_of n (drop REGISTERS xs))) (rest_of n (drop REGISTERS xs))
    ∙ ap (λ ys. take REGISTERS xs ++ ys) (rows-all n (drop REGISTERS xs)) ∙ take-append-drop REGISTERS xs

module _ (f : Parts) (identities : HasIdentities f.heap) where
  id_here : (x : Addr) → has_object f.heap x ≡ true → id_at f.heap x ≡ (placed_at f.heap x).id
  id_here x is = ap id_in (placed_is f.heap x is)

  read_here : (x : Addr) → has_object f.heap x ≡ true
      → get (objects_by_id f.heap) (id_at f.heap x).0 ≡ option_map (rename_object (id_at f.heap))
      (object_at f.heap x)
  read_here x is =
      ap (λ (i : Id). get (objects_by_id f.heap) i.0) (id_here x is)
      ∙ objects-get f.heap identities x.0 (placed_at f.heap x) (placed_is f.heap x is)
      ∙ sym (ap (option_map (rename_object (id_at f.heap))) (object_is f.heap x is))

  has_it : (a : ℕ) (p : Placed) → get f.heap.objects a ≡ Some p → has_object f.heap (record { 0 = a }) ≡ true
  has_it a p is_stored = ap (λ o. is_some
      (option_map (object_in (region_generation f.heap (region_of (record { 0 = a })))) o)) is_stored

  -- an identity that has an object is the one at some address
  pub address_of : (y : Id) → is_object (scene_of (state_of f)).object y ≡ true → (x : Addr)
      × ((has_object f.heap x ≡ true) × (id_at f.heap x ≡ y))
  address_of y is =
      let (o, there) = some_value (get (objects_by_id f.heap) y.0) is in
      let u = objects-under f.heap y.0 o there in (
        record { 0 = u.at },
        (has_it u.at u.value u.is_stored, ap id_in u.is_stored ∙ same_id u.value.id y u.keyed),
      )

  pub apart_here : (x y : Addr) → has_object f.heap x ≡ true → has_object f.heap y ≡ true
      → id_at f.heap x ≡ id_at f.heap y → x ≡ y
  apart_here x y here there same =
      let e = identities x.0 y.0 (placed_at f.heap x) (placed_at f.heap y) (placed_is f.heap x here)
      (placed_is f.heap y there) (sym (id_here x here) ∙ same ∙ id_here y there) in
      λ i. record { 0 = e i }

  -- what a collection reads, by identity: the rows of the weak table are among the handles
  abbrev pub scene_by_id : Scene Id
  scene_by_id = record (scene_of (state_of f)) {
    handle = λ slot. option_map (rename_handle (id_at f.heap)) (get f.table.rows slot);
  }

  pub parts-read : IsReading (id_at f.heap) (scene_of_parts f) scene_by_id
  parts-read = record {
    objects = read_here;
    only = address_of;
    apart = apart_here;
    handles = λ slot. refl;
    named = rows-all (callers_of f) (map (option_map (id_at f.heap)) f.roots);
    queue = refl;
  }

-- where the rows of the weak table are those of its entries, that is the scene of the machine's state
pub scene-read : (f : Parts) (stored : IsStored f) → scene_by_id f stored.identities ≡ scene_of (state_of f)
scene-read f stored = λ i. record (scene_of (state_of f)) {
  handle = λ slot. sym (row-reads f stored.whole.paired stored.tied slot) i;
}
