-- Lemmas on how much is condemned, region by region.
use Rattle.hd_heap.proofs.Basics.{Addr, Area, Bool, Contains, Contains-append_cases, Contains-append_left, Contains-append_right, Counts, Extent, HEADER, HasAmount, HasCondemned, Heap, IsExtent, IsObject, IsSound, List, Object, REGION, REGIONS, [], and_parts, ap, arith, cases_eq, cases_lt, cells_of, contents, counts_like, counts_none, entries, entries_sorted, first_in, get, get_entry, has_object, in_keys, inl, inr, is_condemned, is_some, keys, keys_apart, later_in, len-entries, length-append, length-map, map, mapped_from, mapped_in, member_cases, not_in_none, option_map, pairs_append, pairs_cons, pairs_mapped, pairs_none, placed_at, placed_of, refl, region_of, size_of, subst, sum-many, sum_by, sum_by-append, sum_by-cons, sym, true, unwrap_or, ℕ, ◌%◌, ◌*◌, ◌++◌, ◌+◌, ◌/◌, ◌<◌, ◌∙◌, ◌∷◌, ◌≡◌, ◌≢◌, ◌≤◌}
use Rattle.hd_heap.proofs.{HeapValues.no_placed, HeapValues.same_address, RegionReads.IsIndex, RegionReads.IsHeap, RegionReads.read_in, RegionSums.cells_placed, RegionWalk.condemned_in, RegionWalk.condemned_there, RegionWalk.placed, WantedObjects.object_below}

-- what is condemned in the regions below a number, and a number above those of all; region 0 has none
pub record IsExtentBelow (h : Heap) (n r : ℕ) (e : Extent) : Type 0 where
  pub objects : HasAmount h (λ a. (is_condemned h n a ≡ true) × (region_of a < r)) e.objects e.cells
  pub regions : Counts (λ q. HasCondemned h n q × (q < r)) e.regions
  pub above : (a : Addr) → has_object h a ≡ true → region_of a < e.end
  pub small : e.end ≤ REGIONS
  pub fewer : e.regions < r
  pub cells : e.cells + REGION ≤ r * REGION
  pub few : e.objects ≤ e.cells

-- ---- amounts

module _ {h : Heap} where
  -- two properties that say the same have the same amount
  amount_like : {P Q : Addr → Type 0} {c x : ℕ} → ((a : Addr) → P a → Q a) → ((a : Addr) → Q a → P a)
      → HasAmount h P c x → HasAmount h Q c x
  amount_like to back p = record {
    members = p.members;
    apart = p.apart;
    each = λ a b. to a (p.each a b);
    all = λ a b. p.all a (back a b);
    number = p.number;
    sum = p.sum;
  }

  -- what takes some cells is something
  pub amount_some : {P : Addr → Type 0} {c x : ℕ} → HasAmount h P c x → x ≢ 0 → (a : Addr) × P a
  amount_some {P} p some = by p.members refl
    where
      by : (xs : List Addr) → p.members ≡ xs → (a : Addr) × P a
      by [] e = absurd (some (sym p.sum ∙ ap (sum_by (λ a. cells_of (placed_at h a))) e))
      by (a ∷ xs) e = (a, p.each a (subst (λ ys. Contains ys a) (sym e) (first_in a xs)))

-- the weights of what has these keys
sum_keys : {A : Type 0} (name : ℕ → Addr) (w : Addr → ℕ) (f : A → ℕ) (es : List (ℕ × A))
    → ((e : ℕ × A) → Contains es e → w (name e.0) ≡ f e.1)
    → sum_by w (map name (map (λ (e : ℕ × A). e.0) es)) ≡ sum_by f (map (λ (e : ℕ × A). e.1) es)
sum_keys name w f [] same = refl
sum_keys {A} name w f (e ∷ es) same =
    sum_by-cons w (name e.0) (map name (map (λ (g : ℕ × A). g.0) es))
    ∙ (λ i. same e (first_in e es) i + sum_keys name w f es (λ g c. same g (later_in e es g c)) i)
    ∙ sym (sum_by-cons f e.1 (map (λ (g : ℕ × A). g.1) es))

-- ---- one region

module _ {areas : List Area} {numbers : List ℕ} {limit capacity cells objects holds : ℕ}
    {notes : ℕ × Bool × Bool} {h : Heap}
    (heap : IsHeap areas numbers limit capacity (cells, objects, holds) notes h) {r k : ℕ} {a : Area}
    (p : IsIndex areas r k a) where
  abbrev name : ℕ → Addr
  name j = record { 0 = r * REGION + j }

  low : (j : ℕ) → IsObject (contents a) j → j < REGION
  low j there = omega (arith, object_below a (heap.kept.each r a p.here) j there)

  -- an object of the region has the size that the heap knows
  cells_same : (e : ℕ × Object) → Contains (entries (contents a).objects) e
      → cells_of (placed_at h (name e.0)) ≡ size_of e.1
  cells_same e c =
      let value = get_entry (contents a).objects e.0 e.1 c in
      ap (λ o. cells_of (unwrap_or o no_placed))
      (read_in heap p e.0 (low e.0 (ap is_some value)) ∙ ap (option_map placed_of) value) ∙ cells_placed e.1

  -- the objects of a condemned region are condemned
  pub region_amount : (n : ℕ) → a.generation ≤ n
      → HasAmount h (λ x. (is_condemned h n x ≡ true) × (region_of x ≡ r)) a.count a.live
  unfolding region_of
  region_amount n young =
      let m = (contents a).objects in
      let area = heap.kept.each r a p.here in
      let Q : Addr → Type 0 = λ x. (is_condemned h n x ≡ true) × (x.0 / REGION ≡ r) in
      record {
        members = map name (keys m);
        apart = pairs_mapped (λ x y. x ≢ y) (λ x y. x ≢ y) name (keys m)
            (λ x y apart same. apart (let e = ap (λ (b : Addr). b.0) same in omega (arith, e)))
            (keys_apart (entries m) (entries_sorted m));
        each = λ x c.
            let (j, at) = mapped_from name (keys m) x c in
            let (e, key) = mapped_from (λ (g : ℕ × Object). g.0) (entries m) j at.0 in
            let there : IsObject (contents a) j =
            ap is_some (ap (get m) (sym key.1) ∙ get_entry m e.0 e.1 key.0) in
            let number : (name j).0 / REGION ≡ r = omega (arith, low j there) in
            let offset : (name j).0 % REGION ≡ j = omega (arith, low j there) in
            subst Q at.1 (
              condemned_there heap n (name j) (placed p (name j) number)
                  (subst (IsObject (contents a)) (sym offset) there) young,
              number,
            );
        all = λ x is.
            let j = x.0 % REGION in
            subst (Contains (map name (keys m))) (same_address (name j) x (omega (arith, is.1)))
            (mapped_in name (keys m) j (in_keys m j (condemned_in heap n x (placed p x is.1) is.0).0));
        number = length-map (keys m) name ∙ length-map (entries m) (λ (g : ℕ × Object). g.0)
            ∙ sym (len-entries m) ∙ sym area.count;
        sum = sum_keys name (λ x. cells_of (placed_at h x)) size_of (entries m) cells_same ∙ sym area.live;
      }

  pub count_small : (a.count ≤ a.live) × (a.live ≤ REGION)
  count_small =
      let area = heap.kept.each r a p.here in
      let many = sum-many size_of HEADER (λ o. omega arith) (contents a).objects in (
        omega (arith, many, area.live, area.count),
        omega (arith, area.within, area.laid_out.within_region),
      )

-- ---- numbers with a property, below one number and below the next

module _ (P : ℕ → Type 0) {count : ℕ} (r : ℕ) (counts : Counts (λ q. P q × (q < r)) count) where
  below_bare : (P r → ⊥) → Counts (λ q. P q × (q < r + 1)) count
  below_bare none =
      let apart : (q : ℕ) → P q → q ≢ r = λ q has same. none (subst P same has) in
      counts_like (λ q. P q × (q < r)) (λ q. P q × (q < r + 1)) count (λ q was. (was.0, omega (arith, was.1)))
      (λ q now. (now.0, omega (arith, now.1, apart q now.0))) counts

  below_more : P r → Counts (λ q. P q × (q < r + 1)) (count + 1)
  below_more some = record {
    members = r ∷ counts.members;
    apart = pairs_cons (λ x y. x ≢ y) r counts.members
        (λ q c same. omega (arith, (counts.each q c).1, same)) counts.apart;
    each = λ q c. elim (member_cases r counts.members q c) [
      | inl same ↦ (subst P same some, omega (arith, same))
      | inr later ↦ let was = counts.each q later in (was.0, omega (arith, was.1))
    ];
    all = λ q now. elim (cases_eq q r) [
      | inl same ↦ subst (Contains (r ∷ counts.members)) (sym same) (first_in r counts.members)
      | inr other ↦ later_in r counts.members q (counts.all q (now.0, omega (arith, now.1, other)))
    ];
    number = omega (arith, counts.number);
  }

-- ---- from region to region

module _ {h : Heap} {n : ℕ} where
  pub extent_starts : IsSound h → (end : ℕ) → ((a : Addr) → has_object h a ≡ true → region_of a < end)
      → end ≤ REGIONS → IsExtentBelow h n 1 (record { objects = 0; cells = 0; regions = 0; end = end })
  extent_starts sound end above small =
      let high : (a : Addr) → is_condemned h n a ≡ true → 0 < region_of a = λ a is.
      (sound.numbers (region_of a) (sound.held a (and_parts _ _ is).0)).0 in
      record {
        objects = record {
          members = [];
          apart = pairs_none (λ x y. x ≢ y);
          each = λ a c. absurd (not_in_none a c);
          all = λ a is. absurd (omega (arith, is.1, high a is.0));
          number = refl;
          sum = refl;
        };
        regions = counts_none (λ q. HasCondemned h n q × (q < 1)) (λ q has. omega (
          arith,
          has.1,
          has.0.1.1,
          high has.0.0 has.0.1.0,
        ));
        above = above;
        small = small;
        fewer = omega arith;
        cells = omega arith;
        few = omega arith;
      }

  -- a region without condemned objects
  pub extent_skips : (r : ℕ) {e : Extent} → IsExtentBelow h n r e
      → ((b : Addr) → is_condemned h n b ≡ true → region_of b ≢ r) → IsExtentBelow h n (r + 1) e
  extent_skips r is none = record {
    objects = amount_like (λ a was. (was.0, omega (arith, was.1)))
        (λ a now. (now.0, omega (arith, now.1, none a now.0))) is.objects;
    regions = below_bare (HasCondemned h n) r is.regions (λ has. none has.0 has.1.0 has.1.1);
    above = is.above;
    small = is.small;
    fewer = omega (arith, is.fewer);
    cells = omega (arith, is.cells);
    few = is.few;
  }

  -- a region with some
  pub extent_more : (r : ℕ) {e : Extent} (count live : ℕ) → IsExtentBelow h n r e
      → HasAmount h (λ x. (is_condemned h n x ≡ true) × (region_of x ≡ r)) count live → live ≢ 0
      → (count ≤ live) × (live ≤ REGION) → IsExtentBelow h n (r + 1) (record {
        objects = e.objects + count;
        cells = e.cells + live;
        regions = e.regions + 1;
        end = e.end;
      })
  extent_more r count live is here some small = record {
    objects = record {
      members = is.objects.members ++ here.members;
      apart =
          pairs_append (λ s t. s ≢ t) is.objects.members here.members is.objects.apart here.apart
          (λ s t was now same. omega (
            arith,
            (is.objects.each s was).1,
            (here.each t now).1,
            ap (λ (x : Addr). region_of x) same,
          ));
      each = λ a c. elim (Contains-append_cases is.objects.members here.members a c) [
        | inl old ↦ let was = is.objects.each a old in (was.0, omega (arith, was.1))
        | inr new ↦ let now = here.each a new in (now.0, omega (arith, now.1))
      ];
      all = λ a now. elim (cases_lt (region_of a) r) [
        | inl before ↦ Contains-append_left is.objects.members here.members a (is.objects.all a (now.0, before))
        | inr from ↦ Contains-append_right is.objects.members here.members a
            (here.all a (now.0, omega (arith, from, now.1)))
      ];
      number = length-append is.objects.members here.members ∙ (λ i. is.objects.number i + here.number i);
      sum = sum_by-append (λ a. cells_of (placed_at h a)) is.objects.members here.members
          ∙ (λ i. is.objects.sum i + here.sum i);
    };
    regions = below_more (HasCondemned h n) r is.regions (let (x, has) = amount_some here some in (x, has));
    above = is.above;
    small = is.small;
    fewer = omega (arith, is.fewer);
    cells = omega (arith, is.cells, small.1);
    few = omega (arith, is.few, small.0);
  }

  -- past all regions
  pub extent_ends : (r : ℕ) {e : Extent} → IsExtentBelow h n r e
      → ((a : Addr) → is_condemned h n a ≡ true → region_of a < r) → IsExtent h n e
  extent_ends r {e} is all = record {
    objects = amount_like (λ a was. was.0) (λ a of. (of, all a of)) is.objects;
    regions = counts_like (λ q. HasCondemned h n q × (q < r)) (HasCondemned h n) e.regions (λ q has. has.0)
        (λ q has. (has, omega (arith, all has.0 has.1.0, has.1.1))) is.regions;
    above = is.above;
    small = is.small;
  }
