-- Each object of a heap is in one region in use.
use Rattle.std.proofs.Common.{Contains, List, Option, Some, ap, cond, get_or, is_some, map, refl, subst, sym, true, ℕ, ◌/◌, ◌==◌, ◌∙◌, ◌≡◌, ◌≤◌}
use Rattle.std.specs.FinMap.{FinMap, entries, get}
use Rattle.std.specs.List.{count_by}
use Rattle.std.specs.Option.{unwrap_or}
use Rattle.std.specs.Ordering.{nat_cmp}
use Rattle.hd_heap.specs.Sound.{IsSound}
use Rattle.hd_model.proofs.MapEntries.{get_entry}
use Rattle.hd_model.proofs.Members.{mapped_from, member_at}
use Rattle.hd_model.specs.declared.data.Addr.{Addr}
use Rattle.hd_model.specs.declared.data.Id.{Id}
use Rattle.hd_model.specs.declared.limits.TheConstants.{OLDEST, REGION}
use Rattle.hd_model.specs.Heap.{HasIdentities, Heap, Region, has_object, id_at, id_in, is_in_use, region_at, region_of}
use Rattle.hd_model.specs.State.{Numbers, Object, State}
use Rattle.hd_model.specs.Table.{Table}
use Rattle.hd_seen.specs.Seen.{ObjectSeen, address_of, object_seen, picture, region_seen, regions_seen}
use Rattle.hd_seen.specs.declared.SeenRegion.{SeenRegion}
use Rattle.hd_store.proofs.IdentityReadings.{objects-under}
use Rattle.hd_store.specs.Reading.{objects_by_id}
use Rattle.hd_snapshot.proofs.FoundAddresses.{address-is}
use Rattle.hd_snapshot.proofs.HeapObjects.{has-there}
use Rattle.hd_snapshot.proofs.Listings.{either_way}
use Rattle.hd_snapshot.proofs.ShownOnce.{counted-get, counted-map}
use Rattle.hd_snapshot.specs.Laws.{IsParted}

module _ (h : Heap) (sound : IsSound h) where
  young : (r : SeenRegion) → Contains (regions_seen h) r → r.generation ≤ OLDEST
  young r has =
      let (e, rest) = mapped_from (region_seen h) (entries h.regions) r has in
      let there = get_entry h.regions e.0 e.1 rest.0 in
      let same : (region_at h e.0).generation ≡ r.generation =
      ap (λ (o : Option Region). (unwrap_or o (record { generation = 0; fill = 0 })).generation) there
      ∙ ap (λ (q : SeenRegion). q.generation) rest.1 in
      subst (λ g. g ≤ OLDEST) same (sound.generations e.0 (ap is_some there))

  -- a region in use is seen once
  seen_once : (k : ℕ) → is_in_use h k ≡ true
      → count_by (λ (r : SeenRegion). k == r.number) (regions_seen h) ≡ 1
  seen_once k used =
      counted-map (λ (r : SeenRegion). k == r.number) (region_seen h) (entries h.regions)
      ∙ ap (λ f. count_by f (entries h.regions)) (λ i e. either_way k e.0 i)
      ∙ counted-get k h.regions ∙ ap (λ t. cond t 1 0) used

  module _ (identities : HasIdentities h) where
    -- an object is found at its address, and its region is in use
    used_at : (x : ℕ) (b : Object Id) → get (objects_by_id h) x ≡ Some b
        → is_in_use h (address_of h x / REGION) ≡ true
    unfolding region_of
    used_at x b there =
        let u = objects-under h x b there in
        let a : Addr = record { 0 = u.at } in
        let is : has_object h a ≡ true = has-there h a ∙ ap is_some u.is_stored in
        let key : (id_at h a).0 ≡ x = ap (λ (i : Id). i.0) (ap id_in u.is_stored) ∙ u.keyed in
        let at : address_of h x ≡ a.0 = ap (address_of h) (sym key) ∙ address-is h identities a is in
        ap (λ n. is_in_use h (n / REGION)) at ∙ sound.held a is

    in_one : (objects : FinMap nat_cmp (Object Id)) → objects ≡ objects_by_id h → (o : ObjectSeen)
        → Contains (map (object_seen h) (entries objects)) o
        → count_by (λ (r : SeenRegion). o.address / REGION == r.number) (regions_seen h) ≡ 1
    in_one objects same o has =
        let (e, rest) = mapped_from (object_seen h) (entries objects) o has in
        let there = get_entry objects e.0 e.1 rest.0 in
        let used = used_at e.0 e.1 (ap (λ (m : FinMap nat_cmp (Object Id)). get m e.0) (sym same)
        ∙ there) in
        seen_once (o.address / REGION)
        (subst (λ (q : ObjectSeen). is_in_use h (q.address / REGION) ≡ true) rest.1 used)

    pub parted : (n : Numbers) (s : State) (ages : List ℕ) (t : Table) → s.objects ≡ objects_by_id h
        → IsParted (picture n s ages h t)
    parted n s ages t same = record {
      generations = λ k d low.
          young (get_or (regions_seen h) k d) (member_at (regions_seen h) k d _ low refl);
      regions = λ k d low.
          let objects : List ObjectSeen = map (object_seen h) (entries s.objects) in
          in_one s.objects same (get_or objects k d) (member_at objects k d _ low refl);
    }
