-- What is at the address of an object of a heap.
use Rattle.std.proofs.Common.{Some, [], ap, false, is_some, refl, sym, true, ◌∙◌, ◌≡◌}
use Rattle.std.specs.FinMap.{get}
use Rattle.std.specs.Option.{option_map, unwrap_or}
use Rattle.hd_model.proofs.MapEntries.{some_value}
use Rattle.hd_model.specs.declared.data.Addr.{Addr}
use Rattle.hd_model.specs.Heap.{HasIdentities, Heap, has_object, id_at, id_in, object_at, object_in, placed_at, region_generation, region_of}
use Rattle.hd_model.specs.Scene.{fields_at, fields_in, generation_at, generation_in}
use Rattle.hd_store.proofs.IdentityReadings.{is_some-map}
use Rattle.hd_store.specs.Reading.{objects_by_id}
use Rattle.hd_store.specs.Store.{without_free}

pub same_index : (a b : Addr) → a.0 ≡ b.0 → a ≡ b
same_index a b e = λ i. record { 0 = e i }

module _ (h : Heap) (a : Addr) where
  pub has-there : has_object h a ≡ is_some (get h.objects a.0)
  has-there = is_some-map (object_in (region_generation h (region_of a))) (get h.objects a.0)

  module _ (is : has_object h a ≡ true) where
    pub placed-there : get h.objects a.0 ≡ Some (placed_at h a)
    placed-there =
        let (p, found) = some_value (get h.objects a.0) (sym has-there ∙ is) in
        found
        ∙ sym (ap (λ o. Some (unwrap_or o
        (record { id = record { 0 = 0 }; fields = []; value = 0; registered = false }))) found)

    pub object-there : object_at h a ≡ Some (object_in (region_generation h (region_of a)) (placed_at h a))
    object-there = ap (option_map (object_in (region_generation h (region_of a)))) placed-there

    pub id-there : id_at h a ≡ (placed_at h a).id
    id-there = ap id_in placed-there

    pub fields-there : fields_at (object_at h) a ≡ (placed_at h a).fields
    fields-there = ap fields_in object-there

    pub generation-there : generation_at (object_at h) a ≡ region_generation h (region_of a)
    generation-there = ap generation_in object-there

-- two objects with one identity are one
pub one_identity : (h : Heap) → HasIdentities h → (a b : Addr) → has_object h a ≡ true → has_object h b ≡ true
    → (id_at h a).0 ≡ (id_at h b).0 → a ≡ b
one_identity h identities a b is_a is_b same =
    let ids : id_at h a ≡ id_at h b = λ i. record { 0 = same i } in
    same_index a b (identities a.0 b.0 (placed_at h a) (placed_at h b) (placed-there h a is_a)
    (placed-there h b is_b) (sym (id-there h a is_a) ∙ ids ∙ id-there h b is_b))

-- the objects by identity do not depend on the free regions
pub without-free : (h : Heap) → objects_by_id (without_free h) ≡ objects_by_id h
unfolding objects_by_id
without-free h = refl
