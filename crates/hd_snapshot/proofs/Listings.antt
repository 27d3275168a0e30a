-- The objects of a heap in the order of their identities, as they are seen.
use Rattle.std.proofs.Common.{AllPairs, Contains, List, None, Option, Some, T, [], ap, arith, get_or, is_some, length, map, refl, sym, true, ℕ, ◌&&◌, ◌<◌, ◌==◌, ◌∙◌, ◌∷◌, ◌≡◌, ◌≢◌, ◌≤◌, Bool, IsPermutation, false}
use Rattle.std.proofs.lemmas.Bool.{lt-ltb}
use Rattle.std.proofs.lemmas.Bool.Decides.{Decides-eqb, Decides-like, same_from_decides}
use Rattle.std.proofs.lemmas.List.{get_or-map, length-map}
use Rattle.std.proofs.lemmas.List.Sorted.{Contains-permutation, IsPermutation-map, IsPermutation-sym}
use Rattle.std.proofs.{lemmas.Map.Keys.IsDistinct-IsPermutation, lemmas.Map.Made.AllPairs-from_IsDistinct, lemmas.Map.Made.IsDistinct-from_AllPairs}
use Rattle.std.specs.List.Sorted.{IsNonDecreasingBy}
use Rattle.std.specs.{Cmp.nat_cmp_total, FinMap.Entries.below_all, Ordering.is_lt, Ordering.nat_cmp}
use Rattle.std.specs.FinMap.{entries, entries-from_sorted, find, from_sorted, get, get-from_sorted, is_sorted, nat_cmp-IsAntisymmetric, same_map}
use Rattle.hd_model.proofs.MapEntries.{entry_found, find_entry}
use Rattle.hd_model.proofs.Members.{first_in, later_in, mapped_from, mapped_in, pairs_first, pairs_rest}
use Rattle.hd_model.specs.declared.data.Addr.{Addr}
use Rattle.hd_model.specs.declared.data.Id.{Id}
use Rattle.hd_model.specs.State.{Object}
use Rattle.hd_model.specs.Heap.{HasIdentities, Heap, has_object, id_at, id_in, placed_at}
use Rattle.hd_seen.specs.Seen.{address_of, object_seen}
use Rattle.hd_store.proofs.IdentityReadings.{no_some, objects-get, objects-under}
use Rattle.hd_store.specs.Reading.{objects_by_id, read_object}
use Rattle.hd_snapshot.proofs.FoundAddresses.{address-is}
use Rattle.hd_snapshot.proofs.HeapObjects.{has-there, id-there, placed-there}
use Rattle.hd_snapshot.specs.declared.objects.Located.{Located}
use Rattle.hd_snapshot.specs.Inside.{AreLocated, IsListing, number_of, shown_at}

-- numbers that differ still differ in another order
pub either_way : (a b : ℕ) → (a == b) ≡ (b == a)
either_way a b = same_from_decides (a == b) (b == a) (Decides-eqb a b)
    (Decides-like (b == a) (λ e. sym e) (λ e. sym e) (Decides-eqb b a))

once_moved : (xs ys : List ℕ) → IsPermutation xs ys → AllPairs (λ x y. x ≢ y) xs → AllPairs (λ x y. x ≢ y) ys
once_moved xs ys moves once =
    AllPairs-from_IsDistinct Decides-eqb ys
    (IsDistinct-IsPermutation (λ a b. a == b) either_way xs ys moves
    (IsDistinct-from_AllPairs Decides-eqb xs once))

-- the same objects, sorted by their identities
pub listed_by : (h : Heap) (xs ys : List Located) → AreLocated h xs → IsPermutation xs ys
    → IsNonDecreasingBy number_of ys → IsListing h ys
listed_by h xs ys are moves up =
    let once = once_moved (map number_of xs) (map number_of ys)
    (IsPermutation-map number_of xs ys moves) are.once in
    record {
      located = record {
        objects = λ o among. are.objects o
            (Contains-permutation ys xs o (IsPermutation-sym xs ys moves) among);
        all = λ a is. Contains-permutation xs ys (record { id = id_at h a; at = a }) moves (are.all a is);
        once = once;
      };
      rising = λ i j d low high.
          let long : length (map number_of ys) ≡ length ys = length-map ys number_of in
          let z : Located = record { id = record { 0 = d }; at = record { 0 = 0 } } in
          let at_i : get_or (map number_of ys) i d ≡ number_of (get_or ys i z) =
          get_or-map number_of ys i z d (omega (arith, low, high, long)) in
          let at_j : get_or (map number_of ys) j d ≡ number_of (get_or ys j z) =
          get_or-map number_of ys j z d (omega (arith, high, long)) in
          let under : number_of (get_or ys i z) ≤ number_of (get_or ys j z) =
          up i j z (omega (arith, low)) (omega (arith, high, long)) in
          let differ : get_or (map number_of ys) i d ≢ get_or (map number_of ys) j d = once i j d low high in
          omega (arith, at_i, at_j, under, differ);
    }

-- an object as an entry by identity
abbrev pub entry_at : Heap → Located → ℕ × Object Id
entry_at h o = (number_of o, read_object h o.at.0 (placed_at h o.at))

both : (a b : Bool) → T a → T b → T (a && b)
both true b p q = q
both false b p q = p

below_each : (h : Heap) (x : ℕ) (os : List Located) → ((o : Located) → Contains os o → x < number_of o)
    → T (below_all nat_cmp x (map (entry_at h) os))
below_each h x [] low = tt
below_each h x (o ∷ os) low =
    both (is_lt (nat_cmp x (number_of o))) (below_all nat_cmp x (map (entry_at h) os))
    (rw (lt-ltb x (number_of o) (low o (first_in o os))) tt)
    (below_each h x os (λ p among. low p (later_in o os p among)))

sorted_entries : (h : Heap) (os : List Located) → AllPairs (λ x y. x < y) (map number_of os)
    → T (is_sorted nat_cmp (map (entry_at h) os))
sorted_entries h [] rising = tt
sorted_entries h (o ∷ os) rising =
    both (below_all nat_cmp (number_of o) (map (entry_at h) os)) (is_sorted nat_cmp (map (entry_at h) os))
    (below_each h (number_of o) os
    (λ p among. pairs_first (λ x y. x < y) (number_of o) (map number_of os) rising
    (number_of p) (mapped_in number_of os p among)))
    (sorted_entries h os (pairs_rest (λ x y. x < y) (number_of o) (map number_of os) rising))

module _ (h : Heap) (identities : HasIdentities h) (os : List Located) (listing : IsListing h os) where
  abbrev es : List (ℕ × Object Id)
  es = map (entry_at h) os

  sorted : T (is_sorted nat_cmp es)
  sorted = sorted_entries h os listing.rising

  -- what is listed under an identity is the object with it
  listed_is : (o : Located) → Contains os o
      → get (objects_by_id h) (number_of o) ≡ Some (read_object h o.at.0 (placed_at h o.at))
  listed_is o among =
      let it = listing.located.objects o among in
      let placed = placed-there h o.at it.0 in
      ap (λ (i : Id). get (objects_by_id h) i.0) (it.1 ∙ id-there h o.at it.0)
      ∙ objects-get h identities o.at.0 (placed_at h o.at) placed

  found_is : (q : ℕ) (a b : Option (Object Id)) → find nat_cmp q es ≡ a → get (objects_by_id h) q ≡ b → a ≡ b
  found_is q None None found there = refl
  found_is q (Some x) b found there =
      let (o, rest) = mapped_from (entry_at h) os (q, x) (entry_found es q x found) in
      let key : number_of o ≡ q = ap (λ (e : ℕ × Object Id). e.0) rest.1 in
      let value : read_object h o.at.0 (placed_at h o.at) ≡ x = ap (λ (e : ℕ × Object Id). e.1) rest.1 in
      ap Some (sym value) ∙ sym (listed_is o rest.0) ∙ ap (get (objects_by_id h)) key ∙ there
  found_is q None (Some x) found there =
      let u = objects-under h q x there in
      let a : Addr = record { 0 = u.at } in
      let is : has_object h a ≡ true = has-there h a ∙ ap is_some u.is_stored in
      let among : Contains os (record { id = id_at h a; at = a }) = listing.located.all a is in
      let entry = find_entry es sorted (entry_at h (record { id = id_at h a; at = a }))
      (mapped_in (entry_at h) os (record { id = id_at h a; at = a }) among) in
      let key : (id_at h a).0 ≡ q = ap (λ (i : Id). i.0) (ap id_in u.is_stored) ∙ u.keyed in
      absurd (no_some _ (sym entry ∙ ap (λ k. find nat_cmp k es) key ∙ found))

  entries_are : entries (objects_by_id h) ≡ es
  entries_are =
      ap entries (same_map nat_cmp_total nat_cmp-IsAntisymmetric (objects_by_id h) (from_sorted es)
      (λ q. sym (found_is q (find nat_cmp q es) (get (objects_by_id h) q) refl refl)
      ∙ sym (get-from_sorted nat_cmp es q sorted)))
      ∙ entries-from_sorted nat_cmp es sorted

  shown : (o : Located) → Contains os o → object_seen h (entry_at h o) ≡ shown_at h o.at
  shown o among =
      let it = listing.located.objects o among in
      λ i. record {
        id = it.1 i;
        object = read_object h o.at.0 (placed_at h o.at);
        address = (ap (λ (x : Id). address_of h x.0) it.1 ∙ address-is h identities o.at it.0) i;
      }

  all_shown : (xs : List Located) → ((o : Located) → Contains xs o → Contains os o)
      → map (object_seen h) (map (entry_at h) xs) ≡ map (λ (o : Located). shown_at h o.at) xs
  all_shown [] within = refl
  all_shown (o ∷ xs) within =
      λ i. shown o (within o (first_in o xs)) i
      ∷ all_shown xs (λ p among. within p (later_in o xs p among)) i

  -- the list is that of the objects by identity
  pub listing-shown : map (λ (o : Located). shown_at h o.at) os ≡ map (object_seen h)
      (entries (objects_by_id h))
  listing-shown = sym (all_shown os (λ o among. among)) ∙ ap (map (object_seen h)) (sym entries_are)
