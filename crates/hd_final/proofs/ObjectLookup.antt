-- Objects of a heap by their addresses: what is there, and how many they may be.
use Rattle.hd_final.proofs.Basics.{Addr, AllPairs, Contains, Heap, IsSome, List, Some, [], ap, false, get, has_object, id_at, id_in, len, length, object_at, object_in, option_map, placed_at, refl, region_generation, region_of, sym, true, unwrap_or, ◌∙◌, ◌≡◌, ◌≢◌, ◌≤◌}
use Rattle.hd_heap.proofs.RegionReads.{has-get}
use Rattle.hd_model.proofs.{MapEntries.some_value, MapEntries.counts_keys, PropertyCounts.counts_le}

-- what is at the address of an object
pub placed_there : (h : Heap) (a : Addr) → has_object h a ≡ true → get h.objects a.0 ≡ Some (placed_at h a)
placed_there h a is =
    let (p, found) = some_value (get h.objects a.0) (sym (has-get h a) ∙ is) in
    found
    ∙ sym (ap (λ o. Some (unwrap_or o
    (record { id = record { 0 = 0 }; fields = []; value = 0; registered = false }))) found)

pub object_there : (h : Heap) (a : Addr) → has_object h a ≡ true
    → object_at h a ≡ Some (object_in (region_generation h (region_of a)) (placed_at h a))
object_there h a is =
    ap (option_map (object_in (region_generation h (region_of a)))) (placed_there h a is)

pub id_there : (h : Heap) (a : Addr) → has_object h a ≡ true → id_at h a ≡ (placed_at h a).id
id_there h a is = ap id_in (placed_there h a is)

-- objects that differ are at most as many as the heap has
pub few_differ : (h : Heap) (xs : List Addr) → AllPairs (λ x y. x ≢ y) xs
    → ((a : Addr) → Contains xs a → has_object h a ≡ true) → length xs ≤ len h.objects
few_differ h xs once objects =
    counts_le (λ a. Contains xs a) (λ (a : Addr). IsSome (get h.objects a.0)) (length xs) (len h.objects)
    (λ a k. sym (has-get h a) ∙ objects a k)
    (record { members = xs; apart = once; each = λ a k. k; all = λ a k. k; number = refl })
    (counts_keys h.objects (λ k. record { 0 = k }) (λ (a : Addr). a.0) (λ k. refl) (λ a. refl))
