-- Lemmas on a heap after one of its regions has changed.
use Rattle.hd_heap.proofs.Basics.{Addr, Area, Bool, CARDS, Field, HEADER, HasPart, Heap, IsArea, IsFreeRegion, List, None, Object, Option, Part, Placed, REGION, Region, Registered, Some, Value, address, ap, area_at, area_written, arith, both_ways, card_in, cards_in, cases_eq, cond, contents, eq_by_cmp, false, get_beside, get_inserted, get_left, get_or, get_or-set_other, get_or-set_same, get_removed, inl, inr, insert_cases, is_some, len_again, length, length-map, length-set, map-set, nat_cmp, nat_cmp_total, not, objects_in, option_map, placed_in, placed_of, refl, region_in, region_with_part, regions_in, remove_cases, set, size_of, subst, sum_by, sum_by-set, sym, true, with_object, with_part, ℕ, ◌%◌, ◌&&◌, ◌*◌, ◌+◌, ◌/◌, ◌<◌, ◌||◌, ◌∙◌, ◌≡◌, ◌≢◌}
use Rattle.hd_heap.proofs.{IndexedLists.tied, IndexedLists.untied, RegionReads.get-objects, RegionReads.get-regions, RegionReads.contains-cards, RegionReads.seen, RegionReads.in_use, RegionReads.IsIndex, RegionReads.index_reads, RegionReads.area_here, RegionReads.area_other, RegionReads.IsFound, RegionReads.IsHeap, RegionReads.IsNoted, RegionReads.heap_by}
use Rattle.std.specs.FinMap as fin
use Rattle.std.specs.FinSet as set_of

pub same_maps : {A : Type 0} {m k : fin.FinMap nat_cmp A} → ((q : ℕ) → fin.get m q ≡ fin.get k q) → m ≡ k
same_maps each = fin.same_map nat_cmp_total fin.nat_cmp-IsAntisymmetric _ _ each

pub same_sets : {m k : set_of.FinSet nat_cmp} → ((q : ℕ) → set_of.contains m q ≡ set_of.contains k q) → m ≡ k
same_sets each = set_of.same_set nat_cmp_total set_of.nat_cmp-IsAntisymmetric _ _ each

-- a set after a number was put in or taken out: what holds at that number and at each other
pub mark_cases : (P : Bool → Type 0) (s : set_of.FinSet nat_cmp) (x : ℕ) (on : Bool) (q : ℕ) → (q ≡ x → P on)
    → (q ≢ x → P (set_of.contains s q))
    → P (set_of.contains (cond on (set_of.insert s x) (set_of.remove s x)) q)
mark_cases P s x on q here other = elim (cases_eq q x) [
  | inl same ↦ subst P (sym (by on true (tied q x same))) (here same)
  | inr apart ↦ subst P (sym (by on false (untied q x apart))) (other apart)
]
  where
    by : (b t : Bool) → eq_by_cmp nat_cmp q x ≡ t
        → set_of.contains (cond b (set_of.insert s x) (set_of.remove s x)) q ≡ cond t b (set_of.contains s q)
    by true true e = set_of.contains-insert nat_cmp_total s x q ∙ ap (λ t. t || set_of.contains s q) e
    by true false e = set_of.contains-insert nat_cmp_total s x q ∙ ap (λ t. t || set_of.contains s q) e
    by false true e = set_of.contains-remove nat_cmp_total s x q ∙ ap (λ t. not t && set_of.contains s q) e
    by false false e = set_of.contains-remove nat_cmp_total s x q ∙ ap (λ t. not t && set_of.contains s q) e

-- a region of the list has changed
module _ {areas : List Area} {r k : ℕ} {a : Area} (p : IsIndex areas r k a) (b : Area) where
  -- what holds of the region and of each other one
  set_cases : (P : Option Area → Type 0) (q : ℕ) → (q ≡ r → P (Some b)) → (q ≢ r → P (area_at areas q))
      → P (area_at (set areas k b) q)
  set_cases P q here other = elim (cases_eq q r) [
    | inl same ↦ subst P (sym (ap (area_at (set areas k b)) same ∙ area_here p b)) (here same)
    | inr apart ↦ subst P (sym (area_other p b q apart)) (other apart)
  ]

  -- a reading of the new list, at the region and elsewhere
  reads : {B : Type 0} (f : Option Area → B) (q : ℕ) → f (Some b) ≡ f (Some a)
      → f (area_at (set areas k b) q) ≡ f (area_at areas q)
  reads f q same = set_cases (λ o. f o ≡ f (area_at areas q)) q
      (λ is. same ∙ sym (ap f (ap (area_at areas) is ∙ p.here))) (λ _. refl)

  reads_here : {B : Type 0} (f : Option Area → B) (q : ℕ) → q ≡ r → f (area_at (set areas k b) q) ≡ f (Some b)
  reads_here f q is = ap (λ n. f (area_at (set areas k b) n)) is ∙ ap f (area_here p b)

  pub objects_here : (q : ℕ) → q / REGION ≡ r
      → fin.get (objects_in (set areas k b)) q ≡ placed_in (Some b) (q % REGION)
  objects_here q is = get-objects (set areas k b) q ∙ reads_here (λ o. placed_in o (q % REGION)) (q / REGION)
      is

  pub objects_other : (q : ℕ) → q / REGION ≢ r
      → fin.get (objects_in (set areas k b)) q ≡ fin.get (objects_in areas) q
  objects_other q apart = get-objects (set areas k b) q
      ∙ ap (λ o. placed_in o (q % REGION)) (area_other p b (q / REGION) apart) ∙ sym (get-objects areas q)

  -- at an offset of the region, and elsewhere where the region has one change alone
  objects_off : (off : ℕ) → off < REGION → fin.get (objects_in (set areas k b)) (r * REGION + off)
      ≡ option_map placed_of (fin.get (contents b).objects off)
  objects_off off low =
      let offset : (r * REGION + off) % REGION ≡ off = omega arith in
      objects_here (r * REGION + off) (omega arith)
      ∙ ap (λ j. option_map placed_of (fin.get (contents b).objects j)) offset

  objects_but : (off q : ℕ) → q ≢ r * REGION + off
      → ((j : ℕ) → j ≢ off → fin.get (contents b).objects j ≡ fin.get (contents a).objects j)
      → fin.get (objects_in (set areas k b)) q ≡ fin.get (objects_in areas) q
  objects_but off q apart same = elim (cases_eq (q / REGION) r) [
    | inl here ↦ objects_here q here
        ∙ ap (option_map placed_of) (same (q % REGION) (λ e. apart (omega (arith, e, here))))
        ∙ sym (get-objects areas q ∙ ap (λ n. placed_in (area_at areas n) (q % REGION)) here
        ∙ ap (λ o. placed_in o (q % REGION)) p.here)
    | inr other ↦ objects_other q other
  ]

  pub objects_put : (off : ℕ) (o : Object) → off < REGION
      → (contents b).objects ≡ fin.insert (contents a).objects off o
      → objects_in (set areas k b) ≡ fin.insert (objects_in areas) (r * REGION + off) (placed_of o)
  objects_put off o low change = same_maps (λ q. insert_cases (objects_in areas) (r * REGION + off)
      (λ n x. fin.get (objects_in (set areas k b)) n ≡ x) (placed_of o) q
      (objects_off off low ∙ ap (option_map placed_of)
      (ap (λ m. fin.get m off) change ∙ get_inserted (contents a).objects off o))
      (λ apart. objects_but off q apart
      (λ j other. ap (λ m. fin.get m j) change ∙ get_beside (contents a).objects off o j other)))

  pub objects_gone : (off : ℕ) → off < REGION → (contents b).objects ≡ fin.remove (contents a).objects off
      → objects_in (set areas k b) ≡ fin.remove (objects_in areas) (r * REGION + off)
  objects_gone off low change = same_maps (λ q. remove_cases (objects_in areas) (r * REGION + off)
      (λ n x. fin.get (objects_in (set areas k b)) n ≡ x) q
      (objects_off off low ∙ ap (option_map placed_of)
      (ap (λ m. fin.get m off) change ∙ get_removed (contents a).objects off))
      (λ apart. objects_but off q apart
      (λ j other. ap (λ m. fin.get m j) change ∙ get_left (contents a).objects off j other)))

  pub objects_same : (contents b).objects ≡ (contents a).objects
      → objects_in (set areas k b) ≡ objects_in areas
  objects_same same = same_maps (λ q.
      get-objects (set areas k b) q ∙ reads (λ o. placed_in o (q % REGION)) (q / REGION)
      (ap (λ m. option_map placed_of (fin.get m (q % REGION))) same) ∙ sym (get-objects areas q))

  pub regions_same : region_in (Some b) ≡ region_in (Some a) → regions_in (set areas k b) ≡ regions_in areas
  regions_same same = same_maps (λ q.
      get-regions (set areas k b) q ∙ reads region_in q same ∙ sym (get-regions areas q))

  pub cards_same : ((j : ℕ) → card_in (Some b) j ≡ card_in (Some a) j)
      → cards_in (set areas k b) ≡ cards_in areas
  cards_same same = same_sets (λ c. contains-cards (set areas k b) c
      ∙ reads (λ o. card_in o (c % CARDS)) (c / CARDS) (same (c % CARDS)) ∙ sym (contains-cards areas c))

  pub card_here : (c : ℕ) → c / CARDS ≡ r → set_of.contains (cards_in (set areas k b)) c ≡ card_in (Some b)
      (c % CARDS)
  card_here c is = contains-cards (set areas k b) c ∙ reads_here (λ o. card_in o (c % CARDS)) (c / CARDS) is

  pub card_was : (c : ℕ) → c / CARDS ≡ r → set_of.contains (cards_in areas) c ≡ card_in (Some a) (c % CARDS)
  card_was c is = contains-cards areas c ∙ ap (λ n. card_in (area_at areas n) (c % CARDS)) is
      ∙ ap (λ o. card_in o (c % CARDS)) p.here

  pub card_other : (c : ℕ) → c / CARDS ≢ r → set_of.contains (cards_in (set areas k b)) c ≡ set_of.contains
      (cards_in areas) c
  card_other c apart = contains-cards (set areas k b) c
      ∙ ap (λ o. card_in o (c % CARDS)) (area_other p b (c / CARDS) apart) ∙ sym (contains-cards areas c)

  -- one of its cards was set or cleared
  pub cards_put : (c : ℕ) (on : Bool) → c / CARDS ≡ r → b.cards ≡ set a.cards (c % CARDS) on
      → length a.cards ≡ CARDS → cards_in (set areas k b)
      ≡ cond on (set_of.insert (cards_in areas) c) (set_of.remove (cards_in areas) c)
  cards_put c on here cards long = same_sets (λ q.
      mark_cases (λ t. set_of.contains (cards_in (set areas k b)) q ≡ t) (cards_in areas) c on q
      (λ same. card_here q (ap (λ n. n / CARDS) same ∙ here) ∙ ap (λ n. card_in (Some b) (n % CARDS)) same
      ∙ ap (λ bs. get_or bs (c % CARDS) false) cards
      ∙ get_or-set_same a.cards (c % CARDS) on false (omega (arith, long)))
      (λ apart. elim (cases_eq (q / CARDS) r) [
        | inl is ↦ card_here q is ∙ ap (λ bs. get_or bs (q % CARDS) false) cards
            ∙ get_or-set_other a.cards (c % CARDS) (q % CARDS) on false (λ e. apart (omega (arith, e, is, here)))
            ∙ sym (card_was q is)
        | inr far ↦ card_other q far
      ]))

  regions_other : (q : ℕ) → q ≢ r → fin.get (regions_in (set areas k b)) q ≡ fin.get (regions_in areas) q
  regions_other q apart = get-regions (set areas k b) q ∙ ap region_in (area_other p b q apart)
      ∙ sym (get-regions areas q)

  pub regions_put : (g : Region) → region_in (Some b) ≡ Some g
      → regions_in (set areas k b) ≡ fin.insert (regions_in areas) r g
  regions_put g is = same_maps (λ q. insert_cases (regions_in areas) r
      (λ n x. fin.get (regions_in (set areas k b)) n ≡ x) g q
      (get-regions (set areas k b) r ∙ reads_here region_in r refl ∙ is) (regions_other q))

  pub regions_gone : region_in (Some b) ≡ None → regions_in (set areas k b) ≡ fin.remove (regions_in areas) r
  regions_gone is = same_maps (λ q. remove_cases (regions_in areas) r
      (λ n x. fin.get (regions_in (set areas k b)) n ≡ x) q
      (get-regions (set areas k b) r ∙ reads_here region_in r refl ∙ is) (regions_other q))

  -- what is counted of each region
  pub sum_set : (f : Area → ℕ) → sum_by f (set areas k b) + f a ≡ sum_by f areas + f b
  sum_set f =
      subst (λ (x : Area). sum_by f (set areas k b) + f x ≡ sum_by f areas + f b) (sym (index_reads p))
      (sum_by-set f areas k b a p.within)

  pub each_set : IsArea b → ((q : ℕ) (y : Area) → area_at areas q ≡ Some y → IsArea y) → (q : ℕ) (x : Area)
      → area_at (set areas k b) q ≡ Some x → IsArea x
  each_set new each q = set_cases (λ o. (x : Area) → o ≡ Some x → IsArea x) q
      (λ _ x e. let is : b ≡ x = cc e in subst IsArea is new) (λ _. each q)

  -- another region stays free
  pub free_set : (n : ℕ) → n ≢ r → IsFreeRegion areas n → IsFreeRegion (set areas k b) n
  free_set n apart s = record {
    low = s.low;
    high = omega (arith, s.high, length-set areas k b);
    free = ap region_in (area_other p b n apart) ∙ s.free;
  }

  -- the heap where the region is in use as before
  pub heap_set : {numbers : List ℕ} {limit capacity cells objects holds : ℕ} {notes notes2 : ℕ × Bool × Bool}
      {h : Heap} → IsHeap areas numbers limit capacity (cells, objects, holds) notes h → (cells2 objects2 : ℕ)
      (new : Heap) → IsArea b → a.held ≡ true → b.held ≡ true → objects_in (set areas k b) ≡ new.objects
      → regions_in (set areas k b) ≡ new.regions → h.free ≡ new.free → h.limit ≡ new.limit
      → cards_in (set areas k b) ≡ new.cards → cells2 + a.live ≡ cells + b.live
      → objects2 + a.count ≡ objects + b.count → IsNoted new notes2
      → IsHeap (set areas k b) numbers limit capacity (cells2, objects2, holds) notes2 new
  heap_set heap cells2 objects2 new area was held objects regions free limit cards lives count now =
      let kept = heap.kept in
      let there : is_some (fin.get (regions_in areas) r) ≡ true =
      ap is_some (get-regions areas r ∙ ap region_in p.here ∙ in_use a was) in
      let lens : fin.len (regions_in (set areas k b)) ≡ fin.len (regions_in areas) =
      ap fin.len (regions_put (seen b) (in_use b held)) ∙ len_again (regions_in areas) r (seen b) there in
      heap_by (record {
        each = each_set area kept.each;
        few = omega (arith, length-set areas k b, kept.few);
        lives = omega (arith, sum_set (λ (x : Area). x.live), kept.lives, lives);
        counts = omega (arith, sum_set (λ (x : Area). x.count), kept.counts, count);
        held = kept.held ∙ sym lens;
        parted = omega (arith, length-set areas k b, kept.parted);
        room = omega (arith, length-set areas k b, kept.room);
        free = λ i below. free_set _ (λ e. both_ways _
            (ap is_some (get-regions areas r ∙ ap (λ n. region_in (area_at areas n)) (sym e)
            ∙ (kept.free i below).free)) there) (kept.free i below);
        apart = kept.apart;
      }) (λ i. record {
        objects = objects i;
        regions = regions i;
        free = (ap (λ (x : Heap). x.free) heap.view ∙ free) i;
        limit = (ap (λ (x : Heap). x.limit) heap.view ∙ limit) i;
        cards = cards i;
      }) now

-- an object of the heap is another one, of the same size
pub object_written : {areas : List Area} {numbers : List ℕ} {limit capacity cells objects holds : ℕ}
    {notes notes2 : ℕ × Bool × Bool} {h : Heap}
    → IsHeap areas numbers limit capacity (cells, objects, holds) notes h → (at : Addr) {k : ℕ} {a b : Area}
    (o : Object) (p : Placed) → placed_of o ≡ p → IsFound areas h at k a → IsArea b
    → b ≡ area_written a (at.0 % REGION) o → IsNoted (with_object h at p) notes2
    → IsHeap (set areas k b) numbers limit capacity (cells, objects, holds) notes2 (with_object h at p)
object_written {areas} {cells = cells} {objects = objects} {h = h} heap at {k} {a} {b} o p is f new e now =
    let index = f.located.index in
    let whole : (at.0 / REGION) * REGION + at.0 % REGION ≡ at.0 = omega arith in
    let put : objects_in (set areas k b) ≡ fin.insert h.objects at.0 p =
    objects_put index b (at.0 % REGION) o (omega arith) (ap (λ (x : Area). (contents x).objects) e)
    ∙ (λ i. fin.insert (heap.view i).objects (whole i) (is i)) in
    heap_set index b heap cells objects (with_object h at p) new f.located.held
    (ap (λ (x : Area). x.held) e ∙ f.located.held) put
    (regions_same index b (ap (λ (x : Area). region_in (Some x)) e) ∙ ap (λ (x : Heap). x.regions) heap.view)
    refl refl
    (cards_same index b (λ j. ap (λ (x : Area). get_or x.cards j false) e)
    ∙ ap (λ (x : Heap). x.cards) heap.view)
    (omega (arith, ap (λ (x : Area). x.live) e)) (omega (arith, ap (λ (x : Area). x.count) e)) now

-- a part that is written is seen by the heap's users
pub part_placed : (o : Object) (p : Part) → placed_of (region_with_part o p) ≡ with_part (placed_of o) p
part_placed o (Value v) = refl
part_placed o (Registered on) = refl
part_placed o (Field i n) = ap (λ fs. record (placed_of o) { fields = fs }) (map-set address o.fields i n)

pub part_size : (o : Object) (p : Part) → size_of (region_with_part o p) ≡ size_of o
part_size o (Value v) = refl
part_size o (Registered on) = refl
part_size o (Field i n) = ap (λ k. k + HEADER) (length-set o.fields i n)

-- an object has the part in its region too
pub part_within : (o : Object) (p : Part) → HasPart (placed_of o).fields p → HasPart o.fields p
part_within o (Value v) has = has
part_within o (Registered on) has = has
part_within o (Field i n) has = omega (arith, has, length-map o.fields address)
