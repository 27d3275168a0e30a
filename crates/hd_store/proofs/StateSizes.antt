-- Objects and cells of a generation are as many by identity as by address.
use Rattle.hd_store.proofs.StoreWords.{Bool, HasIdentities, Heap, Id, List, Machine, Object, Placed, [], ap, arith, cells_of, cond, entries, false, filter, len, len-entries, length, length-map, map, objects_by_id, read_object, refl, region_generation, region_of, size_of, sum_by, sum_by-cons, sym, true, values, without_free, ℕ, ◌/◌, ◌+◌, ◌∙◌, ◌∷◌, ◌≡◌}
use Rattle.hd_store.proofs.EntryMaps.{entries-retained, rekeyed}
use Rattle.hd_store.proofs.EntrySums.{fresh-rekeyed, sum-fresh}
use Rattle.hd_store.proofs.IdentityReadings.{apart_by_number}
use Rattle.hd_store.proofs.StateCounts.{len-objects, read-size, used-is}
use Rattle.hd_store.specs.Sizes.{HasSize, IsWhole}
use Rattle.hd_heap.specs.Sizes.{HasSize as HasHeapSize, IsWhole as IsWholeHeap, aged_objects, aged_regions}
use Rattle.hd_heap.specs.declared.sizes.{GenerationSize.GenerationSize, Sizes.Sizes}
use Rattle.std.specs.Prelude.{nat_eq}
use Rattle.hd_model.proofs.MemberWeights.{sum_ones}
use Rattle.hd_model.specs.declared.limits.TheConstants.{REGION}

-- what passes a test weighs what it adds to a sum over all
weight_passing : {A : Type 0} (w : A → ℕ) (p : A → Bool) (xs : List A)
    → sum_by w (filter p xs) ≡ sum_by (λ x. cond (p x) (w x) 0) xs
weight_passing w p [] = refl
weight_passing {A} w p (x ∷ xs) =
    by (p x) (filter p xs) ∙ ap (λ n. cond (p x) (w x) 0 + n) (weight_passing w p xs)
    ∙ sym (sum_by-cons (λ y. cond (p y) (w y) 0) x xs)
  where
    by : (t : Bool) (ys : List A) → sum_by w (cond t (x ∷ ys) ys) ≡ cond t (w x) 0 + sum_by w ys
    by true ys = sum_by-cons w x ys
    by false ys = omega arith

module _ (h : Heap) (g : ℕ) (w : Object Id → ℕ) (v : Placed → ℕ)
    (same : (a : ℕ) (p : Placed) → w (read_object h a p) ≡ v p) where
  abbrev is_aged : Object Id → Bool
  is_aged o = nat_eq o.generation g

  abbrev is_at : ℕ → Bool
  is_at a = nat_eq (region_generation h (a / REGION)) g

  weight_read : (es : List (ℕ × Placed))
      → sum_by (λ o. cond (is_aged o) (w o) 0) (map (λ e. e.1) (rekeyed (λ (p : Placed). p.id.0) (read_object h) es))
      ≡ sum_by v (map (λ e. e.1) (filter (λ (e : ℕ × Placed). is_at e.0) es))
  unfolding region_of
  weight_read [] = refl
  weight_read (e ∷ es) =
      let rest = filter (λ (x : ℕ × Placed). is_at x.0) es in
      sum_by-cons (λ o. cond (is_aged o) (w o) 0) (read_object h e.0 e.1)
      (map (λ x. x.1) (rekeyed (λ (p : Placed). p.id.0) (read_object h) es))
      ∙ ap (λ n. cond (is_at e.0) (w (read_object h e.0 e.1)) 0 + n) (weight_read es)
      ∙ ap (λ n. cond (is_at e.0) n 0 + sum_by v (map (λ x. x.1) rest)) (same e.0 e.1)
      ∙ by (is_at e.0) rest
    where
      by : (t : Bool) (ys : List (ℕ × Placed)) → cond t (v e.1) 0 + sum_by v (map (λ x. x.1) ys)
          ≡ sum_by v (map (λ x. x.1) (cond t (e ∷ ys) ys))
      by true ys = sym (sum_by-cons v e.1 (map (λ x. x.1) ys))
      by false ys = omega arith

  weight_aged : HasIdentities h
      → sum_by w (filter is_aged (values (objects_by_id h))) ≡ sum_by v (values (aged_objects h g))
  unfolding objects_by_id
  weight_aged identities =
      weight_passing w is_aged (values (objects_by_id h))
      ∙ sum-fresh (λ o. cond (is_aged o) (w o) 0) (rekeyed (λ (p : Placed). p.id.0) (read_object h) (entries h.objects))
      (fresh-rekeyed (λ (p : Placed). p.id.0) (read_object h) h.objects (apart_by_number h identities))
      ∙ weight_read (entries h.objects)
      ∙ ap (λ es. sum_by v (map (λ e. e.1) es)) (sym (entries-retained h.objects is_at))

module _ (h : Heap) (identities : HasIdentities h) where
  objects_aged : (g : ℕ) → length (filter (λ (o : Object Id). nat_eq o.generation g) (values (objects_by_id h)))
      ≡ len (aged_objects h g)
  objects_aged g =
      sym (sum_ones (filter (λ (o : Object Id). nat_eq o.generation g) (values (objects_by_id h))))
      ∙ weight_aged h g (λ _. 1) (λ _. 1) (λ a p. refl) identities ∙ sum_ones (values (aged_objects h g))
      ∙ length-map (entries (aged_objects h g)) (λ e. e.1) ∙ sym (len-entries (aged_objects h g))

  pub size_of_state : (m : Machine) (g : ℕ) {size : GenerationSize} → objects_by_id h ≡ m.state.objects
      → without_free h ≡ m.heap → HasHeapSize h g size → HasSize m g size
  size_of_state m g objects heap is = record {
    objects = is.objects ∙ sym (objects_aged g)
        ∙ ap (λ os. length (filter (λ (o : Object Id). nat_eq o.generation g) (values os))) objects;
    cells = is.cells ∙ sym (weight_aged h g size_of cells_of (read-size h) identities)
        ∙ ap (λ os. sum_by size_of (filter (λ (o : Object Id). nat_eq o.generation g) (values os))) objects;
    regions = is.regions ∙ ap (λ (x : Heap). len (aged_regions x g)) heap;
  }

  pub whole_of_state : (m : Machine) {s : Sizes} → objects_by_id h ≡ m.state.objects → without_free h ≡ m.heap
      → IsWholeHeap h s → IsWhole m s
  whole_of_state m objects heap is = record {
    objects = is.objects ∙ sym (len-objects h identities) ∙ ap len objects;
    cells = is.cells ∙ sym (used-is h identities) ∙ ap (λ os. sum_by size_of (values os)) objects;
    regions = is.regions ∙ ap (λ (x : Heap). len x.regions) heap;
  }
