-- Lemmas on a heap after a region was taken into use, released, or added as a free one.
use Rattle.hd_heap.proofs.Basics.{Area, Bool, CARDS, Contents, Heap, IsArea, IsFreed, IsObject, IsFreeRegion, List, None, Option, REGION, Region, Some, [], ap, area_at, arith, both_ways, card_in, cards_in, cases_eq, cases_lt, cond, contents, drop, empty_heap, false, false_from_ne_true, from_one, get_or, get_or-drop, get_or_append_left, get_or_past, get_or_push, get_or_read, inl, inr, is_in_use, is_some, len_less, len_new, length, length-append, length-drop, length-map, length-set, map_push, nat_cmp, nat_eq, objects_in, option_map, placed_in, placed_of, refl, region_in, region_of, regions_in, set, subst, suc, sum_by-append, sum_by-cons, sym, table, tables, true, with_fresh, without_region, zero, ℕ, ◌%◌, ◌++◌, ◌+◌, ◌-◌, ◌/◌, ◌<◌, ◌^◌, ◌∙◌, ◌∷◌, ◌≡◌, ◌≢◌, ◌≤◌}
use Rattle.hd_heap.proofs.{Areas.absent, Areas.none_in_empty, RegionReads.get-objects, RegionReads.get-regions, RegionReads.contains-cards, RegionReads.in_use, RegionReads.not_in_use, RegionReads.IsIndex, RegionReads.index_read, RegionReads.area_here, RegionReads.IsHeldAt, RegionReads.IsHeap, RegionReads.heap_by, RegionReads.noted, RegionReads.regions_at, RegionWrites.same_maps, RegionWrites.same_sets, RegionWrites.objects_same, RegionWrites.objects_here, RegionWrites.objects_other, RegionWrites.regions_put, RegionWrites.regions_gone, RegionWrites.cards_same, RegionWrites.card_here, RegionWrites.card_other, RegionWrites.sum_set, RegionWrites.each_set, RegionWrites.free_set, RegionGiveUp.object_gone, RegionGiveUp.object_left, RegionGiveUp.card_gone, RegionGiveUp.card_left, HeapNotes.noted_given, HeapNotes.noted_left, HeapNotes.noted_none, HeapNotes.noted_free}
use Rattle.std.specs.FinMap as fin
use Rattle.std.specs.FinSet as set_of

-- what holds of each number of a list, and of one more
pushed : (P : ℕ → Type 0) (ns : List ℕ) (n : ℕ) → ((i : ℕ) → i < length ns → P (get_or ns i 0)) → P n
    → (i : ℕ) → i < length (ns ++ n ∷ []) → P (get_or (ns ++ n ∷ []) i 0)
pushed P ns n old new i below = elim (cases_lt i (length ns)) [
  | inl inside ↦ subst P (sym (get_or_append_left ns (n ∷ []) 0 i inside)) (old i inside)
  | inr past ↦
      subst P (sym (get_or_push ns n 0 i (omega (arith, past, below, length-append ns (n ∷ []))))) new
]

pushed_apart : (ns : List ℕ) (n : ℕ) → ((i j : ℕ) → i < j → j < length ns → get_or ns i 0 ≢ get_or ns j 0)
    → ((i : ℕ) → i < length ns → get_or ns i 0 ≢ n) → (i j : ℕ) → i < j → j < length (ns ++ n ∷ [])
    → get_or (ns ++ n ∷ []) i 0 ≢ get_or (ns ++ n ∷ []) j 0
pushed_apart ns n apart new i j order below =
    let first = get_or_append_left ns (n ∷ []) 0 i (omega (arith, order, below, length-append ns (n ∷ []))) in
    λ e. elim (cases_lt j (length ns)) [
      | inl inside ↦ apart i j order inside (sym first ∙ e ∙ get_or_append_left ns (n ∷ []) 0 j inside)
      | inr past ↦ new i (omega (arith, order, below, length-append ns (n ∷ []))) (sym first ∙ e
          ∙ get_or_push ns n 0 j (omega (arith, past, below, length-append ns (n ∷ []))))
    ]

-- the same heap, with its lists written in another way
pub heap_lists : {areas areas2 : List Area} {numbers numbers2 : List ℕ} {limit capacity : ℕ}
    {counts : ℕ × ℕ × ℕ} {notes : ℕ × Bool × Bool} {h : Heap} → areas2 ≡ areas → numbers2 ≡ numbers
    → IsHeap areas numbers limit capacity counts notes h
    → IsHeap areas2 numbers2 limit capacity counts notes h
heap_lists {limit = limit} {capacity} {counts} {notes} {h} e f heap =
    subst (λ (w : List Area × List ℕ). IsHeap w.0 w.1 limit capacity counts notes h)
    (λ i. (sym e i, sym f i)) heap

-- one region more at the end of the list, where there was none
push_cases : (areas : List Area) (b : Area) (P : Option Area → Type 0) (q : ℕ) → P (area_at areas q)
    → (area_at areas q ≡ None → P (Some b)) → P (area_at (areas ++ b ∷ []) q)
push_cases areas b P q old new =
    let all = from_one areas in
    subst P (sym (ap (λ os. get_or (None ∷ os) q None) (map_push Some areas b)))
    (elim (cases_lt q (length all)) [
      | inl inside ↦ subst P (sym (get_or_append_left all (Some b ∷ []) None q inside)) old
      | inr past ↦
          let none = get_or_past all q None past in
          elim (cases_eq (length all) q) [
            | inl last ↦ subst P (sym (get_or_push all (Some b) None q last)) (new none)
            | inr over ↦ subst P (none ∙ sym (get_or_past (all ++ Some b ∷ []) q None
                (omega (arith, length-append all (Some b ∷ []), past, over)))) old
          ]
    ])

reads_push : (areas : List Area) (b : Area) {B : Type 0} (f : Option Area → B) (q : ℕ) → f (Some b) ≡ f None
    → f (area_at (areas ++ b ∷ []) q) ≡ f (area_at areas q)
reads_push areas b f q same =
    push_cases areas b (λ o. f o ≡ f (area_at areas q)) q refl (λ none. same ∙ ap f (sym none))

module _ {areas : List Area} {numbers : List ℕ} {limit capacity cells objects holds : ℕ}
    {notes : ℕ × Bool × Bool} {h : Heap}
    (heap : IsHeap areas numbers limit capacity (cells, objects, holds) notes h) where
  held_is : holds ≡ fin.len h.regions
  held_is = heap.kept.held ∙ ap (λ (x : Heap). fin.len x.regions) heap.view

  pub held_counted : (r : ℕ) → is_in_use h r ≡ true → 1 ≤ holds
  held_counted r is = let less = len_less h.regions r is in omega (arith, less, held_is)

  -- there is more room for the numbers of free regions
  pub heap_roomy : {capacity2 : ℕ} → capacity ≤ capacity2
      → IsHeap areas numbers limit capacity2 (cells, objects, holds) notes h
  heap_roomy more =
      let kept = heap.kept in
      record {
        view = heap.view;
        kept = record {
          each = kept.each;
          few = kept.few;
          lives = kept.lives;
          counts = kept.counts;
          held = kept.held;
          parted = kept.parted;
          room = omega (arith, kept.room, more);
          free = kept.free;
          apart = kept.apart;
        };
        notes_are = heap.notes_are;
      }

  -- the first free region, at its index of the list
  pub record IsFirstFreeRegion (n k : ℕ) (a : Area) : Type 0 where
    pub some : 0 < length numbers
    pub first : n ≡ get_or numbers 0 0
    pub number : n ≡ get_or h.free 0 0
    pub index : IsIndex areas n k a
    pub free : a.held ≡ false
    pub was_free : is_in_use h n ≡ false

  pub free_read : {n k : ℕ} {x : Area} → 0 < length h.free → n ≡ get_or numbers 0 n → k ≡ n - 1
      → x ≡ get_or areas k x → IsFirstFreeRegion n k x
  free_read {n} {k} {x} lengths is e read =
      let some : 0 < length numbers = omega (arith, lengths, ap (λ (y : Heap). length y.free) heap.view) in
      let first : n ≡ get_or numbers 0 0 = get_or_read numbers 0 n some is 0 in
      let s = heap.kept.free 0 some in
      let p = index_read areas n k x (omega (arith, first, e, s.low))
      (omega (arith, first, e, s.low, s.high)) read in
      let free = false_from_ne_true _ (λ held. let e = sym (in_use x held) ∙ sym (ap region_in p.here)
      ∙ ap (λ m. region_in (area_at areas m)) first ∙ s.free in absurd (cc e)) in
      record {
        some = some;
        first = first;
        number = first ∙ ap (λ (y : Heap). get_or y.free 0 0) heap.view;
        index = p;
        free = free;
        was_free = ap is_some (regions_at heap n ∙ ap region_in p.here ∙ not_in_use x free);
      }

  -- it is taken into use
  pub region_held : {r k : ℕ} {a : Area} (b : Area) (g : ℕ) {d : ℕ} {numbers2 : List ℕ} {capacity2 : ℕ}
      → IsFirstFreeRegion r k a → IsArea b → b ≡ record a { held = true; generation = g } → numbers2
      ≡ drop 1 numbers → capacity2 ≡ capacity → d ≡ cond (nat_eq g 0) 0 notes.0 → IsHeap (set areas k b)
      numbers2 limit capacity2 (cells, objects, holds + 1) (d, notes.1, notes.2) (with_fresh h r g)
  region_held {r} {k} {a} b g {d} {numbers2} {capacity2} at new is rest same_capacity known =
      let p = at.index in
      let kept = heap.kept in
      let x : Region = record { generation = g; fill = 0 } in
      let empty = (kept.each r a p.here).free at.free in
      let one : region_in (Some b) ≡ Some x = ap (λ (y : Area). region_in (Some y)) is
      ∙ (λ i. Some (record { generation = g; fill = (empty i).fill })) in
      let none = regions_at heap r ∙ ap region_in p.here ∙ not_in_use a at.free in
      let regions = regions_put p b x one ∙ ap (λ (y : Heap). fin.insert y.regions r x) heap.view in
      let objects_are = objects_same p b (ap (λ (y : Area). (contents y).objects) is)
      ∙ ap (λ (y : Heap). y.objects) heap.view in
      let cards_are = cards_same p b (λ j. ap (λ (y : Area). get_or y.cards j false) is)
      ∙ ap (λ (y : Heap). y.cards) heap.view in
      let long = length-set areas k b in
      let fewer = length-drop 1 numbers in
      heap_lists refl rest (heap_by (record {
        each = each_set p b new kept.each;
        few = omega (arith, long, kept.few);
        lives = omega (arith, sum_set p b (λ (y : Area). y.live), ap (λ (y : Area). y.live) is, kept.lives);
        counts = omega (arith, sum_set p b (λ (y : Area). y.count), ap (λ (y : Area). y.count) is, kept.counts);
        held = omega (arith, ap fin.len regions, len_new h.regions r x none, held_is);
        parted = omega (arith, fewer, at.some, kept.parted, long);
        room = omega (arith, long, same_capacity, kept.room);
        free = λ i below.
            let inside : 1 + i < length numbers = omega (arith, fewer, below) in
            subst (IsFreeRegion (set areas k b)) (sym (get_or-drop 1 numbers i 0))
            (free_set p b (get_or numbers (1 + i) 0)
            (λ e. kept.apart 0 (1 + i) (omega arith) inside (sym (e ∙ at.first))) (kept.free (1 + i) inside));
        apart = λ i j order below e. kept.apart (1 + i) (1 + j) (omega (arith, order))
            (omega (arith, fewer, below)) (sym (get_or-drop 1 numbers i 0) ∙ e ∙ get_or-drop 1 numbers j 0);
      }) (λ i. record {
        objects = objects_are i;
        regions = regions i;
        free = drop 1 (heap.view i).free;
        limit = (heap.view i).limit;
        cards = cards_are i;
      }) (noted_given (noted heap) r g 0 (drop 1 h.free) known))

  -- what a region counts is counted of all
  pub cells_counted : {r k : ℕ} {a : Area} → IsIndex areas r k a → a.live ≤ cells
  cells_counted {a = a} p =
      omega (arith, sum_set p (record a { live = 0 }) (λ (x : Area). x.live), heap.kept.lives)

  pub objects_counted : {r k : ℕ} {a : Area} → IsIndex areas r k a → a.count ≤ objects
  objects_counted {a = a} p =
      omega (arith, sum_set p (record a { count = 0 }) (λ (x : Area). x.count), heap.kept.counts)

  -- a region in use becomes the last free one, and its objects are gone
  pub region_freed : {r k : ℕ} {a : Area} (b : Area) {numbers2 : List ℕ} {capacity2 : ℕ} (taken gone : ℕ)
      → IsHeldAt areas h r k a → IsArea b → IsFreed b → taken ≡ a.live → gone ≡ a.count
      → numbers2 ≡ numbers ++ r ∷ [] → capacity2 ≡ capacity
      → IsHeap (set areas k b) numbers2 limit capacity2 (cells - taken, objects - gone, holds - 1) notes
      (without_region h r)
  unfolding region_of
  region_freed {r} {k} {a} b taken gone at new free taken_is gone_is more same_capacity =
      let p = at.index in
      let kept = heap.kept in
      let none = not_in_use b free.held in
      let lens = len_less h.regions r at.there in
      let long = length-set areas k b in
      let bare : (q : ℕ) → placed_in (Some b) q ≡ None = λ q.
      ap (λ (c : Contents). option_map placed_of (fin.get c.objects q)) free.contents_are
      ∙ ap (option_map placed_of) (fin.get-empty nat_cmp q) in
      let objects_left : objects_in (set areas k b) ≡ (without_region h r).objects =
      same_maps (λ q. elim (cases_eq (q / REGION) r) [
        | inl same ↦ objects_here p b q same ∙ bare (q % REGION) ∙ sym
            (object_gone h r (record { 0 = q }) same)
        | inr other ↦ objects_other p b q other ∙ ap (λ (x : Heap). fin.get x.objects q) heap.view
            ∙ sym (object_left h r (record { 0 = q }) other)
      ]) in
      let cards_left : cards_in (set areas k b) ≡ (without_region h r).cards =
      same_sets (λ c. elim (cases_eq (c / CARDS) r) [
        | inl same ↦ card_here p b c same ∙ free.cards (c % CARDS) ∙ sym (card_gone h r c same)
        | inr other ↦ card_other p b c other ∙ ap (λ (x : Heap). set_of.contains x.cards c) heap.view
            ∙ sym (card_left h r c other)
      ]) in
      let regions = regions_gone p b none ∙ ap (λ (y : Heap). fin.remove y.regions r) heap.view in
      let unlike : (i : ℕ) → i < length numbers → get_or numbers i 0 ≢ r = λ i below e. both_ways _
      (ap is_some (regions_at heap r ∙ ap (λ n. region_in (area_at areas n)) (sym e)
      ∙ (kept.free i below).free)) at.there in
      heap_lists refl more (heap_by (record {
        each = each_set p b new kept.each;
        few = omega (arith, long, kept.few);
        lives = omega (arith, sum_set p b (λ (x : Area). x.live), free.live, kept.lives, taken_is);
        counts = omega (arith, sum_set p b (λ (x : Area). x.count), free.count, kept.counts, gone_is);
        held = omega (arith, ap fin.len regions, lens, held_is);
        parted = omega (arith, length-append numbers (r ∷ []), kept.parted, long, lens, held_is);
        room = omega (arith, long, same_capacity, kept.room);
        free = pushed (IsFreeRegion (set areas k b)) numbers r
            (λ i below. free_set p b (get_or numbers i 0) (unlike i below) (kept.free i below)) (record {
              low = omega (arith, p.number);
              high = omega (arith, p.number, p.within, long);
              free = ap region_in (area_here p b) ∙ none;
            });
        apart = pushed_apart numbers r kept.apart unlike;
      }) (λ i. record {
        objects = objects_left i;
        regions = regions i;
        free = (heap.view i).free ++ r ∷ [];
        limit = (heap.view i).limit;
        cards = cards_left i;
      }) (noted_left (noted heap) r))

  -- memory was taken for one more free region
  pub region_added : (b : Area) {areas2 : List Area} {numbers2 : List ℕ} {capacity2 : ℕ} (n : ℕ) → IsArea b
      → IsFreed b → areas2 ≡ areas ++ b ∷ []
      → n ≡ length areas + 1 → n < 2 ^ 24 → numbers2 ≡ numbers ++ n ∷ [] → length areas + 1 ≤ capacity2
      → IsHeap areas2 numbers2 limit capacity2 (cells, objects, holds) notes
      (record h { free = h.free ++ n ∷ [] })
  region_added b n new free areas_are n_is small free_are room =
      let kept = heap.kept in
      let bare : (j : ℕ) → ¬ (IsObject (contents b) j) = λ j there. none_in_empty j
      (subst (λ (c : Contents). IsObject c j) free.contents_are there) in
      let list = areas ++ b ∷ [] in
      let none = not_in_use b free.held in
      let long = length-append areas (b ∷ []) in
      let regions : regions_in list ≡ regions_in areas =
      same_maps (λ q. get-regions list q ∙ reads_push areas b region_in q none ∙ sym (get-regions areas q)) in
      let objects_same : objects_in list ≡ objects_in areas =
      same_maps (λ q. get-objects list q ∙ reads_push areas b (λ o. placed_in o (q % REGION)) (q / REGION)
      (ap (option_map placed_of) (absent (contents b) (q % REGION) (bare (q % REGION))))
      ∙ sym (get-objects areas q)) in
      let cards_same : cards_in list ≡ cards_in areas = same_sets
      (λ c. contains-cards list c ∙ reads_push areas b (λ o. card_in o (c % CARDS)) (c / CARDS)
      (free.cards (c % CARDS)) ∙ sym (contains-cards areas c)) in
      heap_lists areas_are free_are (heap_by (record {
        each = λ q. push_cases areas b (λ o. (x : Area) → o ≡ Some x → IsArea x) q (kept.each q)
            (λ _ x e. let is : b ≡ x = cc e in subst IsArea is new);
        few = omega (arith, long, n_is, small);
        lives = (let known = sum_by-append (λ (x : Area). x.live) areas (b ∷ []) in
            omega (arith, kept.lives, known, sum_by-cons (λ (x : Area). x.live) b [], free.live));
        counts = (let known = sum_by-append (λ (x : Area). x.count) areas (b ∷ []) in
            omega (arith, kept.counts, known, sum_by-cons (λ (x : Area). x.count) b [], free.count));
        held = kept.held ∙ ap fin.len (sym regions);
        parted = omega (arith, length-append numbers (n ∷ []), long, kept.parted);
        room = omega (arith, long, room);
        free = pushed (IsFreeRegion list) numbers n
            (λ i below. let s = kept.free i below in record {
              low = s.low;
              high = omega (arith, s.high, long);
              free = reads_push areas b region_in _ none ∙ s.free;
            }) (record {
              low = omega (arith, n_is);
              high = omega (arith, n_is, long);
              free = reads_push areas b region_in n none
                  ∙ ap region_in (get_or_past (from_one areas) n None (omega (arith, n_is, length-map areas Some)));
            });
        apart = pushed_apart numbers n kept.apart
            (λ i below e. omega (arith, e, (kept.free i below).high, n_is));
      }) (λ i. record {
        objects = (objects_same ∙ ap (λ (x : Heap). x.objects) heap.view) i;
        regions = (regions ∙ ap (λ (x : Heap). x.regions) heap.view) i;
        free = (heap.view i).free ++ n ∷ [];
        limit = (heap.view i).limit;
        cards = (cards_same ∙ ap (λ (x : Heap). x.cards) heap.view) i;
      }) (noted_free (noted heap) (h.free ++ n ∷ [])))

-- a heap without regions
pub no_regions : (areas : List Area) (numbers : List ℕ) (limit capacity : ℕ) → areas ≡ [] → numbers ≡ []
    → IsHeap areas numbers limit capacity (0, 0, 0) (0, false, false) (empty_heap limit)
unfolding table tables
no_regions areas numbers limit capacity no_areas none_free = heap_lists no_areas none_free (heap_by (record {
  each = λ r a e. absurd (let none = nothing r in cc (none, e));
  few = omega arith;
  lives = refl;
  counts = refl;
  held = sym (fin.len-empty nat_cmp Region);
  parted = refl;
  room = omega arith;
  free = λ i below. absurd (omega arith);
  apart = λ i j below within. absurd (omega arith);
}) refl (noted_none limit))
  where
    nothing : (q : ℕ) → area_at [] q ≡ None
    nothing zero = refl
    nothing (suc k) = refl
