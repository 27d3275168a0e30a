-- Lemmas on a heap that is read from its regions.
use Rattle.hd_heap.proofs.Basics.{Addr, AreOthersFull, Area, Bool, CARD, CARDS, HasFlags, HasLeft, HasOlder, Heap, IsArea, IsKept, IsObject, IsObjectOf, List, None, Older, Option, Placed, REGION, Region, Some, [], address, ap, area_at, arith, both_ways, card_in, cards_in, cases_lt, cond, contents, deque_capacity, false, fields_in, from_one, generation_in, get-by_index, get_or, get_or-map, get_or-set_other, get_or-set_same, get_or_past, has_object, heap_of, inl, inr, is_in_use, is_set, is_some, length, length-map, length-set, map, map-set, object_at, object_in, objects_in, option_map, placed_at, placed_in, placed_of, refl, region_at, region_generation, region_in, region_of, regions_in, set, subst, suc, sym, tables, true, unwrap_or, used_of, zero, ℕ, ◌%◌, ◌*◌, ◌+◌, ◌-◌, ◌/◌, ◌<◌, ◌∙◌, ◌≡◌, ◌≢◌, ◌≤◌}
use Rattle.hd_heap.proofs.{IndexedLists.contains-indexes_of, IndexedLists.get_or-tables, Areas.object_there, Areas.held_by_object, RegionSums.cells_sum, RegionSums.count_sum}
use Rattle.std.proofs.Math.ListN.{get_or-map as map_read}
use Rattle.hd_heap.specs.declared.heap.Heap.TheInside.{Inside}
use Rattle.std.specs.FinMap as fin
use Rattle.std.specs.FinSet as set_of

-- what the maps and the set have
pub get-objects : (areas : List Area) (a : ℕ) → fin.get (objects_in areas) a ≡ placed_in
    (area_at areas (a / REGION)) (a % REGION)
get-objects areas a =
    get-by_index (tables REGION placed_in (from_one areas)) a
    ∙ get_or-tables REGION placed_in None (λ k. refl) (from_one areas) a (a / REGION) (a % REGION)
    (omega arith)
    (omega arith)

pub get-regions : (areas : List Area) (r : ℕ) → fin.get (regions_in areas) r ≡ region_in (area_at areas r)
get-regions areas r = get-by_index (map region_in (from_one areas)) r
    ∙ map_read region_in (from_one areas) r None

pub contains-cards : (areas : List Area) (c : ℕ) → set_of.contains (cards_in areas) c ≡ card_in
    (area_at areas (c / CARDS)) (c % CARDS)
contains-cards areas c =
    contains-indexes_of (tables 8 card_in (from_one areas)) c
    ∙ get_or-tables 8 card_in false (λ k. refl) (from_one areas) c (c / CARDS) (c % CARDS) (omega arith)
    (omega arith)

-- a region of the list as the heap's users see it
abbrev pub seen : Area → Region
seen a = record { generation = a.generation; fill = (contents a).fill }

pub in_use : (a : Area) → a.held ≡ true → region_in (Some a) ≡ Some (seen a)
in_use a held = ap (λ b. cond b (Some (seen a)) None) held

pub not_in_use : (a : Area) → a.held ≡ false → region_in (Some a) ≡ None
not_in_use a free = ap (λ b. cond b (Some (seen a)) None) free

-- the region of a number, at an index of the list
pub record IsIndex (areas : List Area) (r k : ℕ) (a : Area) : Type 0 where
  pub number : r ≡ suc k
  pub within : k < length areas
  pub here : area_at areas r ≡ Some a

placed_some : {areas : List Area} (r : ℕ) → (area_at areas r ≡ None → ⊥) → (k : ℕ) × (a : Area)
    × IsIndex areas r k a
placed_some zero some = absurd (some refl)
placed_some {areas} (suc k) some = by (area_at areas (suc k)) refl
  where
    by : (o : Option Area) → area_at areas (suc k) ≡ o → (j : ℕ) × (a : Area) × IsIndex areas (suc k) j a
    by None e = absurd (some e)
    by (Some a) e = elim (cases_lt k (length areas)) [
      | inl within ↦ (k, a, record { number = refl; within = within; here = e })
      | inr past ↦ absurd (some (get_or_past (map Some areas) k None (omega
          (arith, length-map areas Some, past))))
    ]

pub index_read : (areas : List Area) (r k : ℕ) (x : Area) → r ≡ k + 1 → k < length areas
    → x ≡ get_or areas k x → IsIndex areas r k x
index_read areas r k x e within read =
    let number : r ≡ suc k = omega (arith, e) in
    record {
      number = number;
      within = within;
      here = ap (area_at areas) number ∙ get_or-map Some areas k x None within ∙ ap Some (sym read);
    }

pub index_reads : {areas : List Area} {r k : ℕ} {a : Area} → IsIndex areas r k a → a ≡ get_or areas k a
index_reads {areas} {r} {k} {a} p =
    let some : Some (get_or areas k a) ≡ Some a = sym (get_or-map Some areas k a None p.within)
    ∙ ap (area_at areas) (sym p.number) ∙ p.here in
    let read : get_or areas k a ≡ a = cc some in
    sym read

-- after another region was put there
module _ {areas : List Area} {r k : ℕ} {a : Area} (p : IsIndex areas r k a) (b : Area) where
  pub area_here : area_at (set areas k b) r ≡ Some b
  area_here = ap (area_at (set areas k b)) p.number ∙ get_or-map Some (set areas k b) k b None
      (omega (arith, length-set areas k b, p.within)) ∙ ap Some (get_or-set_same areas k b b p.within)

  pub area_other : (q : ℕ) → q ≢ r → area_at (set areas k b) q ≡ area_at areas q
  area_other zero apart = refl
  area_other (suc j) apart = ap (λ os. get_or os j None) (map-set Some areas k b)
      ∙ get_or-set_other (map Some areas) k j (Some b) None (λ same. apart (ap suc same ∙ sym p.number))

-- a region in use, at its index of the list
pub record IsHeldAt (areas : List Area) (h : Heap) (r k : ℕ) (a : Area) : Type 0 where
  pub index : IsIndex areas r k a
  pub area : IsArea a
  pub held : a.held ≡ true
  pub there : is_in_use h r ≡ true
  pub region : region_at h r ≡ seen a

-- an object of a region in use
pub record IsFound (areas : List Area) (h : Heap) (at : Addr) (k : ℕ) (a : Area) : Type 0 where
  pub located : IsHeldAt areas h (at.0 / REGION) k a
  pub object : IsObject (contents a) (at.0 % REGION)
  pub get : fin.get h.objects at.0 ≡ Some (placed_of (object_at (contents a) (at.0 % REGION)))
  pub placed : placed_at h at ≡ placed_of (object_at (contents a) (at.0 % REGION))

pub is_some_map : {A B : Type 0} (f : A → B) (o : Option A) → is_some (option_map f o) ≡ is_some o
is_some_map f None = refl
is_some_map f (Some x) = refl

pub has-get : (h : Heap) (a : Addr) → has_object h a ≡ is_some (fin.get h.objects a.0)
has-get h a = is_some_map _ (fin.get h.objects a.0)

-- what is noted of a heap: the region of the last new object, set cards, and registered objects
pub record IsNoted (h : Heap) (notes : ℕ × Bool × Bool) : Type 0 where
  pub full : AreOthersFull h notes.0
  pub flags : HasFlags h notes.1 notes.2

-- the fields of a heap, with its numbers of cells, of objects and of regions in use, and its value
pub record IsHeap (areas : List Area) (numbers : List ℕ) (limit capacity : ℕ) (counts : ℕ × ℕ × ℕ)
    (notes : ℕ × Bool × Bool) (h : Heap) : Type 0 where
  pub view : heap_of areas numbers limit ≡ h
  pub kept : IsKept areas numbers capacity counts.0 counts.1 counts.2
  pub notes_are : IsNoted (heap_of areas numbers limit) notes

pub opened : (s : Inside) {h : Heap} → heap_of s.areas.items s.free.items s.limit ≡ h
    → IsKept s.areas.items s.free.items (deque_capacity s.free) s.used s.count s.held
    × AreOthersFull (heap_of s.areas.items s.free.items s.limit) s.current
    × HasFlags (heap_of s.areas.items s.free.items s.limit) s.carding s.registering
    × HasLeft (heap_of s.areas.items s.free.items s.limit) s.current s.used s.left
    × HasOlder s.areas.items s.older
    → IsHeap s.areas.items s.free.items s.limit (deque_capacity s.free)
    (s.used, s.count, s.held) (s.current, s.carding, s.registering) h
opened s view invariant = record {
  view = view;
  kept = invariant.0;
  notes_are = record { full = invariant.1; flags = invariant.2 };
}

-- what is left in the current region, read in the value
pub left_read : (s : Inside) {h : Heap} → heap_of s.areas.items s.free.items s.limit ≡ h
    → HasLeft (heap_of s.areas.items s.free.items s.limit) s.current s.used s.left
    → HasLeft h s.current s.used s.left
left_read s view is = subst (λ x. HasLeft x s.current s.used s.left) view is

pub closed : {areas : List Area} {numbers : List ℕ} {limit capacity : ℕ} {counts : ℕ × ℕ × ℕ}
    {notes : ℕ × Bool × Bool} {h : Heap} {left : ℕ} {older : Older}
    → IsHeap areas numbers limit capacity counts notes h → HasLeft h notes.0 counts.0 left
    → HasOlder areas older → IsKept areas numbers capacity counts.0 counts.1 counts.2
    × AreOthersFull (heap_of areas numbers limit) notes.0 × HasFlags (heap_of areas numbers limit) notes.1 notes.2
    × HasLeft (heap_of areas numbers limit) notes.0 counts.0 left × HasOlder areas older
closed {counts = counts} {notes = notes} {left = left} heap is has = (
  heap.kept,
  heap.notes_are.full,
  heap.notes_are.flags,
  subst (λ x. HasLeft x notes.0 counts.0 left) (sym heap.view) is,
  has,
)

-- the same where nothing is known of it
pub closed_none : {areas : List Area} {numbers : List ℕ} {limit capacity : ℕ} {counts : ℕ × ℕ × ℕ}
    {notes : ℕ × Bool × Bool} {h : Heap} {older : Older} → IsHeap areas numbers limit capacity counts notes h
    → HasOlder areas older → IsKept areas numbers capacity counts.0 counts.1 counts.2
    × AreOthersFull (heap_of areas numbers limit) notes.0 × HasFlags (heap_of areas numbers limit) notes.1 notes.2
    × HasLeft (heap_of areas numbers limit) notes.0 counts.0 0 × HasOlder areas older
closed_none heap has = (
  heap.kept,
  heap.notes_are.full,
  heap.notes_are.flags,
  λ some. absurd (some refl),
  has,
)

module _ {areas : List Area} {numbers : List ℕ} {limit capacity cells objects holds : ℕ}
    {notes : ℕ × Bool × Bool} {h : Heap}
    (heap : IsHeap areas numbers limit capacity (cells, objects, holds) notes h) where
  pub noted : IsNoted h notes
  noted = subst (λ x. IsNoted x notes) heap.view heap.notes_are

  pub used_is : cells ≡ used_of h
  used_is = heap.kept.lives ∙ cells_sum areas heap.kept.each ∙ ap used_of heap.view

  pub count_is : objects ≡ fin.len h.objects
  count_is = heap.kept.counts ∙ count_sum areas heap.kept.each
      ∙ ap (λ (x : Heap). fin.len x.objects) heap.view

  pub objects_at : (a : ℕ) → fin.get h.objects a ≡ placed_in (area_at areas (a / REGION)) (a % REGION)
  objects_at a = ap (λ (x : Heap). fin.get x.objects a) (sym heap.view) ∙ get-objects areas a

  pub regions_at : (r : ℕ) → fin.get h.regions r ≡ region_in (area_at areas r)
  regions_at r = ap (λ (x : Heap). fin.get x.regions r) (sym heap.view) ∙ get-regions areas r

  pub set_at : (c : ℕ) → is_set h c ≡ card_in (area_at areas (c / CARDS)) (c % CARDS)
  set_at c = ap (λ (x : Heap). set_of.contains x.cards c) (sym heap.view) ∙ contains-cards areas c

  -- what the heap has in a region, and whether a card of a region is set
  pub read_in : {r k : ℕ} {a : Area} → IsIndex areas r k a → (j : ℕ) → j < REGION
      → fin.get h.objects (r * REGION + j) ≡ option_map placed_of (fin.get (contents a).objects j)
  read_in {r} {a = a} p j low =
      let n = r * REGION + j in
      let number : n / REGION ≡ r = omega arith in
      let offset : n % REGION ≡ j = omega arith in
      objects_at n ∙ (λ i. placed_in (area_at areas (number i)) (offset i)) ∙ ap (λ o. placed_in o j) p.here

  pub card_at : {k : ℕ} {a : Area} (at : Addr) → IsIndex areas (at.0 / REGION) k a
      → is_set h (at.0 / CARD) ≡ card_in (Some a) ((at.0 % REGION) / CARD)
  card_at at p =
      let number : (at.0 / CARD) / CARDS ≡ at.0 / REGION = omega arith in
      let card : (at.0 / CARD) % CARDS ≡ (at.0 % REGION) / CARD = omega arith in
      set_at (at.0 / CARD) ∙ (λ i. card_in (area_at areas (number i)) (card i))
      ∙ ap (λ o. card_in o ((at.0 % REGION) / CARD)) p.here

  pub card_there : {r k : ℕ} {a : Area} (j : ℕ) → IsIndex areas r k a → j < CARDS
      → is_set h (r * CARDS + j) ≡ card_in (Some a) j
  card_there {r} j p low =
      let n = r * CARDS + j in
      let number : n / CARDS ≡ r = omega arith in
      let card : n % CARDS ≡ j = omega arith in
      set_at n ∙ (λ i. card_in (area_at areas (number i)) (card i)) ∙ ap (λ o. card_in o j) p.here

  -- an object of a region is one of the heap
  pub has_there : (at : Addr) (a : Area) → area_at areas (at.0 / REGION) ≡ Some a
      → has_object h at ≡ is_some (fin.get (contents a).objects (at.0 % REGION))
  has_there at a e = has-get h at ∙ ap is_some (objects_at at.0 ∙ ap (λ o. placed_in o (at.0 % REGION)) e)
      ∙ is_some_map placed_of (fin.get (contents a).objects (at.0 % REGION))

  -- a region in use
  pub located_by : {r k : ℕ} {a : Area} → IsIndex areas r k a → a.held ≡ true → IsHeldAt areas h r k a
  located_by {r} {a = a} p held =
      let got = regions_at r ∙ ap region_in p.here ∙ in_use a held in
      record {
        index = p;
        area = heap.kept.each r a p.here;
        held = held;
        there = ap is_some got;
        region = ap (λ (o : Option Region). unwrap_or o (record { generation = 0; fill = 0 })) got;
      }

  -- a number without a region, one of a free region, and one of a region in use
  pub none_at_zero : (r : ℕ) → r ≡ 0 → fin.get h.regions r ≡ None
  none_at_zero r is = ap (fin.get h.regions) is ∙ regions_at 0

  pub none_past : (r k : ℕ) → r ≡ k + 1 → length areas ≤ k → fin.get h.regions r ≡ None
  none_past r k is past =
      let number : r ≡ suc k = omega (arith, is) in
      ap (fin.get h.regions) number ∙ regions_at (suc k)
      ∙ ap region_in (get_or_past (map Some areas) k None (omega (arith, length-map areas Some, past)))

  pub none_free : {r k : ℕ} {a : Area} → IsIndex areas r k a → a.held ≡ false → fin.get h.regions r ≡ None
  none_free {r} {a = a} p free = regions_at r ∙ ap region_in p.here ∙ not_in_use a free

  pub some_held : {r k : ℕ} {a : Area} → IsIndex areas r k a → a.held ≡ true
      → fin.get h.regions r ≡ Some (seen a)
  some_held {r} {a = a} p held = regions_at r ∙ ap region_in p.here ∙ in_use a held

  pub held_at : {r k : ℕ} {a : Area} → IsIndex areas r k a → is_in_use h r ≡ true → IsHeldAt areas h r k a
  held_at {r} {a = a} p is = located_by p (held_of a.held refl)
    where
      held_of : (b : Bool) → a.held ≡ b → a.held ≡ true
      held_of true e = e
      held_of false e = absurd (let none = ap is_some (regions_at r ∙ ap region_in p.here ∙ not_in_use a e) in
          both_ways _ none is)

  pub found_at : (at : Addr) {k : ℕ} {a : Area} → IsIndex areas (at.0 / REGION) k a → has_object h at ≡ true
      → IsFound areas h at k a
  found_at at {a = a} p is =
      let there : IsObject (contents a) (at.0 % REGION) = sym (has_there at a p.here) ∙ is in
      let got = objects_at at.0 ∙ ap (λ o. placed_in o (at.0 % REGION)) p.here
      ∙ ap (option_map placed_of) (object_there (contents a) (at.0 % REGION) there) in
      record {
        located = located_by p (held_by_object a (heap.kept.each _ a p.here) (at.0 % REGION) there);
        object = there;
        get = got;
        placed = ap (λ (o : Option Placed). unwrap_or o
            (record { id = record { 0 = 0 }; fields = []; value = 0; registered = false })) got;
      }

  -- the index of what is there
  pub found : (at : Addr) → has_object h at ≡ true → (k : ℕ) × (a : Area) × IsFound areas h at k a
  found at is =
      let (k, a, p) = placed_some (at.0 / REGION) (λ none. both_ways _ (has-get h at
      ∙ ap is_some (objects_at at.0 ∙ ap (λ o. placed_in o (at.0 % REGION)) none)) is) in
      (k, a, found_at at p is)

  pub held_found : (r : ℕ) → is_in_use h r ≡ true → (k : ℕ) × (a : Area) × IsHeldAt areas h r k a
  held_found r is =
      let (k, a, p) = placed_some r (λ none. both_ways _ (ap is_some (regions_at r ∙ ap region_in none)) is) in
      (k, a, held_at p is)

  -- the index of an object's region, and of a region in use
  pub index_within : (at : Addr) {k : ℕ} → has_object h at ≡ true → k ≡ at.0 / REGION - 1 → k < length areas
  index_within at is e = let p = (found at is).2.located.index in omega (arith, e, p.number, p.within)

  pub held_index : {r k : ℕ} → is_in_use h r ≡ true → k ≡ r - 1 → (0 < r) × (k < length areas)
  held_index {r} is e = let p = (held_found r is).2.index in
      (omega (arith, p.number), omega (arith, e, p.number, p.within))

  -- what a read of the list at such an index states
  pub found_read : (at : Addr) {k : ℕ} {x : Area} → has_object h at ≡ true → k ≡ at.0 / REGION - 1
      → x ≡ get_or areas k x → IsFound areas h at k x
  found_read at {k} {x} is e read =
      let p = (found at is).2.located.index in
      found_at at (index_read areas (at.0 / REGION) k x (omega (arith, e, p.number))
      (index_within at is e) read)
      is

  pub held_read : {r k : ℕ} {x : Area} → is_in_use h r ≡ true → k ≡ r - 1 → x ≡ get_or areas k x
      → IsHeldAt areas h r k x
  held_read {r} {k} {x} is e read =
      let index = held_index is e in
      held_at (index_read areas r k x (omega (arith, e, index.0)) index.1 read) is

-- the heap's fields after a step, and its value
pub heap_by : {areas : List Area} {numbers : List ℕ} {limit capacity : ℕ} {counts : ℕ × ℕ × ℕ}
    {notes : ℕ × Bool × Bool} {h : Heap} → IsKept areas numbers capacity counts.0 counts.1 counts.2
    → heap_of areas numbers limit ≡ h → IsNoted h notes → IsHeap areas numbers limit capacity counts notes h
heap_by {notes = notes} kept view now =
    record { view = view; kept = kept; notes_are = subst (λ x. IsNoted x notes) (sym view) now }

-- an object is read alike in the heap and in its region
pub object_of : {areas : List Area} {h : Heap} {k : ℕ} {a : Area} (at : Addr) → IsFound areas h at k a
    → IsObjectOf h at a (at.0 % REGION)
unfolding region_of
object_of {h = h} at f =
    let whole = λ (p : Option Placed). option_map (object_in (region_generation h (at.0 / REGION))) p in
    record {
      area = f.located.area;
      offset_is = refl;
      object = f.object;
      placed = f.placed;
      fields = ap (λ (p : Option Placed). fields_in (whole p)) f.get;
      generation = ap (λ (p : Option Placed). generation_in (whole p)) f.get
          ∙ ap (λ (g : Region). g.generation) f.located.region;
    }

pub address_is : (n : ℕ) → n ≢ 0 → address n ≡ Some (record { 0 = n })
address_is zero apart = absurd (apart refl)
address_is (suc n) apart = refl
