-- What is kept of the fields of a heap is what its users see.
use Rattle.hd_heap.proofs.Basics.{Addr, Area, Bool, CARDS, Heap, IsObject, IsSound, List, None, Option, Placed, REGION, Region, Some, StartsIn, [], address, ap, area_at, arith, card_in, card_of, cases_eq, cells_of, contents, false, get_or, inl, inr, is_in_use, is_some, length, length-map, map, object_at, refl, region_of, subst, suc, sum-many, sum_by, sum_by-cons, sym, true, ℕ, ◌%◌, ◌*◌, ◌+◌, ◌/◌, ◌<◌, ◌^◌, ◌∙◌, ◌∷◌, ◌≡◌, ◌≢◌, ◌≤◌}
use Rattle.hd_heap.proofs.{RegionReads.IsHeap, RegionReads.get-regions, RegionReads.found, RegionReads.held_found, RegionReads.has_there, RegionReads.set_at, RegionReads.used_is, RegionReads.count_is, RegionSums.cells_placed}
use Rattle.std.specs.FinMap as fin

-- what is counted of each region, which is at most the number of its cells, as that of the objects' is
pub sum_small : (f : Area → ℕ) (areas : List Area) → ((k : ℕ) (a : Area) → get_or (map Some areas) k None ≡ Some a
    → f a ≤ REGION) → sum_by f areas ≤ REGION * length areas
sum_small f [] small = omega arith
sum_small f (a ∷ areas) small =
    let rest = sum_small f areas (λ k x e. small (suc k) x e) in
    omega (arith, small 0 a refl, rest, sum_by-cons f a areas)

module _ {areas : List Area} {unused : List ℕ} {limit capacity cells objects holds : ℕ}
    {notes : ℕ × Bool × Bool} {h : Heap}
    (heap : IsHeap areas unused limit capacity (cells, objects, holds) notes h) where
  pub cells_small : cells ≤ REGION * length areas
  cells_small =
      let small = sum_small (λ (x : Area). x.live) areas (λ k a e. let is = heap.kept.each (suc k) a e in
      omega (arith, is.within, is.laid_out.within_region)) in
      omega (arith, heap.kept.lives, small)

  pub objects_small : 3 * objects ≤ cells
  objects_small =
      let many = sum-many cells_of 3 (λ p. omega arith) h.objects in
      omega (arith, many, used_is heap, count_is heap)

  starts : (c : ℕ) (o : Option Area) → area_at areas (c / CARDS) ≡ o → card_in o (c % CARDS) ≡ true → StartsIn
      h c
  unfolding card_of
  starts c None e set = absurd (cc set)
  starts c (Some a) e set =
      let area = heap.kept.each (c / CARDS) a e in
      let b = area.cards (c % CARDS) set in
      let low = area.laid_out.below_fill b.at b.object in
      let at : Addr = record { 0 = (c / CARDS) * REGION + b.at } in
      let number : at.0 / REGION ≡ c / CARDS = omega (arith, low, area.laid_out.within_region) in
      let offset : at.0 % REGION ≡ b.at = omega (arith, low, area.laid_out.within_region) in
      record {
        at = at;
        object = has_there heap at a (ap (area_at areas) number ∙ e)
            ∙ ap (λ k. is_some (fin.get (contents a).objects k)) offset ∙ b.object;
        in_card = omega (arith, b.in_card, low, area.laid_out.within_region);
      }

  -- the numbers of free regions
  record AreFreeRegions (x : Heap) : Type 0 where
    numbers : (i : ℕ) → i < length x.free → (0 < get_or x.free i 0) × (get_or x.free i 0 < 2 ^ 24)
    free : (i : ℕ) → i < length x.free → is_in_use x (get_or x.free i 0) ≡ false
    apart : (i j : ℕ) → i < j → j < length x.free → get_or x.free i 0 ≢ get_or x.free j 0

  free_of : AreFreeRegions h
  free_of = subst AreFreeRegions heap.view record {
    numbers = λ i below. let s = heap.kept.free i below in (s.low, omega (arith, s.high, heap.kept.few));
    free = λ i below. ap is_some (get-regions areas _ ∙ (heap.kept.free i below).free);
    apart = heap.kept.apart;
  }

  pub sound : IsSound h
  unfolding region_of card_of
  sound = record {
    held = λ a is. (found heap a is).2.located.there;
    within = λ a is.
        let f = (found heap a is).2 in
        (let known = f.located.area.laid_out.below_fill (a.0 % REGION) f.object in
        let also = cells_placed (object_at (contents (found heap a is).1) (a.0 % REGION)) in
        omega (arith, known, also, ap cells_of f.placed, ap (λ (g : Region). g.fill) f.located.region));
    apart = λ a b is_a is_b below.
        let f = (found heap a is_a).2 in
        let g = (found heap b is_b).2 in
        let laid = f.located.area.laid_out in
        let size = cells_placed (object_at (contents (found heap a is_a).1) (a.0 % REGION)) in
        let low = laid.below_fill (a.0 % REGION) f.object in
        elim (cases_eq (a.0 / REGION) (b.0 / REGION)) [
          | inl same ↦
              let one = sym g.located.index.here ∙ ap (area_at areas) (sym same) ∙ f.located.index.here in
              let area_same : (found heap b is_b).1 ≡ (found heap a is_a).1 = cc one in
              let there = subst (λ (x : Area). IsObject (contents x) (b.0 % REGION)) area_same g.object in
              let next = laid.apart (a.0 % REGION) (b.0 % REGION) f.object there (omega (arith, same, below))
              in
              omega (arith, next, size, same, ap cells_of f.placed)
          | inr other ↦ omega (arith, other, below, low, size, laid.within_region, ap cells_of f.placed)
        ];
    identified = λ a is e. let f = (found heap a is).2 in
        (f.located.area.laid_out.well_formed (a.0 % REGION) f.object).identified
        (sym (ap (λ (p : Placed). p.id.0) f.placed) ∙ e);
    few_fields = λ a is.
        let f = (found heap a is).2 in
        (let known = (f.located.area.laid_out.well_formed (a.0 % REGION) f.object).few_fields in
        let also =
        length-map (object_at (contents (found heap a is).1) (a.0 % REGION)).fields address in
        omega (arith, known, also, ap (λ (p : Placed). length p.fields) f.placed));
    fills = λ r is. let f = (held_found heap r is).2 in
        omega (arith, f.area.laid_out.within_region, ap (λ (g : Region). g.fill) f.region);
    generations = λ r is. let f = (held_found heap r is).2 in
        omega (arith, f.area.generation, ap (λ (g : Region). g.generation) f.region);
    numbers = λ r is. let p = (held_found heap r is).2.index in
        (omega (arith, p.number), omega (arith, p.number, p.within, heap.kept.few));
    free_numbers = free_of.numbers;
    free_unused = free_of.free;
    free_apart = free_of.apart;
    cards = λ c set. starts c (area_at areas (c / CARDS)) refl (sym (set_at heap c) ∙ set);
    few_objects = omega (arith, cells_small, objects_small, count_is heap, heap.kept.few);
  }
