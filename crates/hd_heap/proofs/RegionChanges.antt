-- Lemmas on a heap after one of its regions got or lost an object, a generation or a set card.
use Rattle.hd_heap.proofs.Basics.{Addr, Area, Bool, CARD, CARDS, Heap, IsArea, IsRemoved, IsTaken, List, None, Object, Placed, REGION, Region, Some, address, ap, area_at, area_put, arith, card_of, cases_eq, cells_of, cond, contents, false, false_from_ne_true, get_or, get_or-set_other, has_object, inl, inr, is_set, is_some, length-set, map, nat_eq, new_object, new_region_object, objects_in, option_map, placed_of, refl, region_at, region_generation, region_in, replicate, set, size_of, suc, sym, true, with_card, with_generation, with_put, zero, ℕ, ◌%◌, ◌*◌, ◌+◌, ◌-◌, ◌/◌, ◌<◌, ◌^◌, ◌∙◌, ◌∷◌, ◌≡◌, ◌≤◌}
use Rattle.hd_heap.proofs.{HeapSoundness.cells_small, HeapSoundness.objects_small, Areas.none_at_fill, Areas.live_at, Areas.count_at, RegionSums.cells_placed, HeapNotes.noted_given, HeapNotes.noted_card, HeapNotes.noted_put, HeapNotes.noted_removed, RegionReads.seen, RegionReads.in_use, RegionReads.area_here, RegionReads.IsHeldAt, RegionReads.IsFound, RegionReads.IsHeap, RegionReads.noted, RegionReads.has-get, RegionReads.found, RegionReads.address_is, RegionReads.has_there, RegionReads.read_in, RegionReads.card_at, RegionWrites.mark_cases, RegionWrites.objects_put, RegionWrites.objects_gone, RegionWrites.objects_same, RegionWrites.regions_same, RegionWrites.regions_put, RegionWrites.cards_same, RegionWrites.cards_put, RegionWrites.sum_set, RegionWrites.heap_set}
use Rattle.std.specs.FinMap as fin
use Rattle.std.specs.FinSet as set_of

nulls_of : (n : ℕ) → map address (replicate n 0) ≡ replicate n None
nulls_of zero = refl
nulls_of (suc n) = ap (λ xs. None ∷ xs) (nulls_of n)

-- a new object as the heap's users see it
pub new_placed : (id n : ℕ) (on : Bool)
    → placed_of (new_region_object id n on) ≡ new_object (record { 0 = id }) n on
new_placed id n on = λ i. record { id = record { 0 = id }; fields = nulls_of n i; value = 0; registered = on }

module _ {areas : List Area} {numbers : List ℕ} {limit capacity cells objects holds : ℕ}
    {notes : ℕ × Bool × Bool} {h : Heap}
    (heap : IsHeap areas numbers limit capacity (cells, objects, holds) notes h) where
  -- the address of an object is read as it was written
  pub address_stored : (a : Addr) → has_object h a ≡ true → address a.0 ≡ Some a
  address_stored a is =
      address_is a.0 (λ e. let p = (found heap a is).2.located.index in omega (arith, e, p.number))

  -- a region gets another generation
  pub generation_changed : {r k : ℕ} {a : Area} (g : ℕ) {d : ℕ} → IsHeldAt areas h r k a → g ≤ 2
      → d ≡ cond (nat_eq g 0) 0 notes.0 → IsHeap (set areas k (record a { generation = g })) numbers limit
      capacity (cells, objects, holds) (d, notes.1, notes.2) (with_generation h r g)
  generation_changed {r} {k} {a} g at low known =
      let b : Area = record a { generation = g } in
      let old = at.area in
      let new : IsArea b = record {
        laid_out = old.laid_out;
        live = old.live;
        count = old.count;
        within = old.within;
        generation = low;
        card_count = old.card_count;
        cards = old.cards;
        free = old.free;
      } in
      heap_set at.index b heap cells objects (with_generation h r g) new at.held at.held
      (objects_same at.index b refl ∙ ap (λ (x : Heap). x.objects) heap.view)
      (regions_put at.index b (seen b) (in_use b at.held)
      ∙ (λ i. fin.insert (heap.view i).regions r (record { generation = g; fill = (sym at.region i).fill })))
      refl refl (cards_same at.index b (λ j. refl) ∙ ap (λ (x : Heap). x.cards) heap.view) refl refl
      (noted_given (noted heap) r g (region_at h r).fill h.free known)

  -- the card of an object is set or cleared
  pub card_changed : (at : Addr) {k : ℕ} {a : Area} (on : Bool) {c : Bool} → IsFound areas h at k a
      → (c ≡ false → notes.1 ≡ false) → (c ≡ false → on ≡ false)
      → IsHeap (set areas k (record a { cards = set a.cards ((at.0 % REGION) / CARD) on })) numbers limit
      capacity (cells, objects, holds) (notes.0, c, notes.2) (with_card h (card_of at) on)
  unfolding card_of
  card_changed at {k} {a} on f wider off =
      let card = (at.0 % REGION) / CARD in
      let b : Area = record a { cards = set a.cards card on } in
      let old = f.located.area in
      let index = f.located.index in
      let new : IsArea b = record {
        laid_out = old.laid_out;
        live = old.live;
        count = old.count;
        within = old.within;
        generation = old.generation;
        card_count = length-set a.cards card on ∙ old.card_count;
        cards = λ j set_j. elim (cases_eq j card) [
          | inl same ↦ record { at = at.0 % REGION; object = f.object; in_card = sym same }
          | inr apart ↦ old.cards j (sym (get_or-set_other a.cards card j on false apart) ∙ set_j)
        ];
        free = old.free;
      } in
      heap_set index b heap cells objects (with_card h (at.0 / CARD) on) new f.located.held f.located.held
      (objects_same index b refl ∙ ap (λ (x : Heap). x.objects) heap.view)
      (regions_same index b refl ∙ ap (λ (x : Heap). x.regions) heap.view) refl refl
      (cards_put index b (at.0 / CARD) on (omega arith) (ap (λ n. set a.cards n on) (omega arith)) old.card_count
      ∙ ap (λ (x : Heap). cond on (set_of.insert x.cards (at.0 / CARD)) (set_of.remove x.cards (at.0 / CARD)))
      heap.view) refl refl (noted_card (noted heap) (at.0 / CARD) on wider off)

  -- an object was put after all others of a region
  pub object_put : {r k : ℕ} {a b : Area} (o : Object) (p : Placed) (size : ℕ) {g : Bool} → placed_of o ≡ p
      → size ≡ size_of o → IsHeldAt areas h r k a → IsArea b → (contents a).fill + size ≤ REGION
      → b ≡ area_put a o → (g ≡ false → notes.2 ≡ false) → (g ≡ false → p.registered ≡ false)
      → IsHeap (set areas k b) numbers limit capacity (cells + size, objects + 1, holds) (notes.0, notes.1, g)
      (with_put h r (region_generation h r) p)
  object_put {r} {k} {a} {b} o p size is size_is at new room e wider off =
      let fill : (contents a).fill ≡ (region_at h r).fill = ap (λ (x : Region). x.fill) (sym at.region) in
      let sizes : size_of o ≡ cells_of p = sym (cells_placed o) ∙ ap cells_of is in
      let added : objects_in (set areas k b) ≡ fin.insert h.objects (r * REGION + (region_at h r).fill) p =
      objects_put at.index b (contents a).fill o (omega (arith, room, size_is))
      (ap (λ (x : Area). (contents x).objects) e)
      ∙ (λ i. fin.insert (heap.view i).objects (r * REGION + fill i) (is i)) in
      let held : b.held ≡ true = ap (λ (x : Area). x.held) e ∙ at.held in
      heap_set at.index b heap (cells + size) (objects + 1) (with_put h r (region_generation h r) p) new at.held
      held added
      (regions_put at.index b (seen b) (in_use b held) ∙ (λ i. fin.insert (heap.view i).regions r (record {
        generation = (ap (λ (x : Area). x.generation) e ∙ ap (λ (x : Region). x.generation) (sym at.region)) i;
        fill = (ap (λ (x : Area). (contents x).fill) e ∙ (λ j. fill j + sizes j)) i;
      })))
      refl refl
      (cards_same at.index b (λ j. ap (λ (x : Area). get_or x.cards j false) e)
      ∙ ap (λ (x : Heap). x.cards) heap.view)
      (omega (arith, ap (λ (x : Area). x.live) e, size_is)) (omega (arith, ap (λ (x : Area). x.count) e))
      (noted_put (noted heap) p wider off r at.there)

  -- the numbers of cells and of objects have 32 bits afterwards
  pub put_fits : {size : ℕ} → size < REGION → (cells + size < 2 ^ 32) × (objects + 1 < 2 ^ 32)
  put_fits low =
      let cells = cells_small heap in
      let few = heap.kept.few in
      (omega arith, omega (arith, objects_small heap))

  -- nothing was where it is put
  pub index_free : {r k : ℕ} {a : Area} (at : Addr) → IsHeldAt areas h r k a → (contents a).fill < REGION
      → at.0 ≡ r * REGION + (region_at h r).fill → has_object h at ≡ false
  index_free {r} {a = a} at located low address = has-get h at ∙ ap is_some (ap (fin.get h.objects)
      (address ∙ ap (λ (g : Region). r * REGION + g.fill) located.region)
      ∙ read_in heap located.index (contents a).fill low
      ∙ ap (option_map placed_of) (none_at_fill a located.area))

  -- what is removed was counted
  pub counted : (at : Addr) {k : ℕ} {a : Area} {b : Area} {size : ℕ} → IsFound areas h at k a
      → IsTaken a b (at.0 % REGION) size → (size ≤ cells) × (1 ≤ objects)
  counted at {a = a} {size = size} f taken =
      let one = sum_set f.located.index (record a { live = 0; count = 0 }) in
      let live = live_at a f.located.area (at.0 % REGION) f.object in
      let count = count_at a f.located.area (at.0 % REGION) f.object in (
        omega (arith, one (λ (x : Area). x.live), heap.kept.lives, live, taken.size),
        omega (arith, one (λ (x : Area). x.count), heap.kept.counts, count),
      )

  -- an object was removed from its region
  module _ (at : Addr) {k : ℕ} {a b : Area} {size : ℕ} (f : IsFound areas h at k a) (new : IsArea b)
      (taken : IsTaken a b (at.0 % REGION) size) where
    abbrev pub without : Heap
    without = record (with_card h (card_of at) taken.card) { objects = fin.remove h.objects at.0 }

    pub object_removed : IsHeap (set areas k b) numbers limit capacity
        (cells - size, objects - 1, holds) notes without
    unfolding card_of
    object_removed =
        let index = f.located.index in
        let is = taken.is in
        let whole : (at.0 / REGION) * REGION + at.0 % REGION ≡ at.0 = omega arith in
        let live = live_at a f.located.area (at.0 % REGION) f.object in
        let count = count_at a f.located.area (at.0 % REGION) f.object in
        let number : (at.0 % REGION) / CARD ≡ (at.0 / CARD) % CARDS = omega arith in
        heap_set index b heap (cells - size) (objects - 1) without new f.located.held
        (ap (λ (x : Area). x.held) is ∙ f.located.held)
        (objects_gone index b (at.0 % REGION) (omega arith) (ap (λ (x : Area). (contents x).objects) is)
        ∙ (λ i. fin.remove (heap.view i).objects (whole i)))
        (regions_same index b (ap (λ (x : Area). region_in (Some x)) is)
        ∙ ap (λ (x : Heap). x.regions) heap.view) refl refl
        (cards_put index b (at.0 / CARD) taken.card (omega arith)
        (ap (λ (x : Area). x.cards) is ∙ ap (λ n. set a.cards n taken.card) number)
        f.located.area.card_count ∙ ap (λ (x : Heap). cond taken.card (set_of.insert x.cards (at.0 / CARD))
        (set_of.remove x.cards (at.0 / CARD))) heap.view)
        (omega (arith, ap (λ (x : Area). x.live) is, (counted at f taken).0, live, taken.size))
        (omega (arith, ap (λ (x : Area). x.count) is, (counted at f taken).1, count))
        (noted_removed (noted heap) at taken.card
        (λ on. card_at heap at index ∙ sym (taken.kept (taken.begins on)) ∙ on))

    -- an object of the region afterwards
    there : (x : Addr) → x.0 / REGION ≡ at.0 / REGION
        → has_object without x ≡ is_some (fin.get (contents b).objects (x.0 % REGION))
    there x same = has_there object_removed x b
        (ap (area_at (set areas k b)) same ∙ area_here f.located.index b)

    pub removed_cards : IsRemoved h without at
    unfolding card_of
    removed_cards = record {
      removed = refl;
      others = λ c apart. mark_cases (λ t. t ≡ is_set h c) h.cards (at.0 / CARD) taken.card c
          (λ same. absurd (apart same)) (λ _. refl);
      shared = λ x is in_card. mark_cases (λ t. t ≡ is_set h (at.0 / CARD)) h.cards (at.0 / CARD) taken.card
          (at.0 / CARD) (λ _. taken.kept (record {
            at = x.0 % REGION;
            object = sym (there x (omega (arith, in_card))) ∙ is;
            in_card = omega (arith, in_card);
          }) ∙ sym (card_at heap at f.located.index)) (λ _. refl);
      last = λ none. mark_cases (λ t. t ≡ false) h.cards (at.0 / CARD) taken.card (at.0 / CARD)
          (λ _. false_from_ne_true _ (λ on.
          let begun = taken.begins on in
          let low = new.laid_out.below_fill begun.at begun.object in
          let within = new.laid_out.within_region in
          let x : Addr = record { 0 = (at.0 / REGION) * REGION + begun.at } in
          let offset : x.0 % REGION ≡ begun.at = omega arith in
          none x (there x (omega arith) ∙ ap (λ n. is_some (fin.get (contents b).objects n)) offset
          ∙ begun.object) (omega (arith, begun.in_card, low, within)))) (λ apart. absurd (apart refl));
    }
