-- What the regions of a generation have together is how much the heap has of it.
use Rattle.hd_heap.proofs.Basics.{Area, Bool, Contents, GenerationSize, HasOlder, HasShare, HasSize, Heap, IsArea, IsWhole, List, Measure, None, Older, Option, Placed, REGION, Region, Some, [], aged_objects, aged_regions, ap, area_at, arith, cells_of, cond, contents, empty_region, false, from_one, get_or, length-replicate, map, nat_cmp, nat_eq, number_in, of_cells, of_objects, of_regions, objects_in, option_map, part_of, placed_in, placed_of, refl, region_generation, region_in, regions_in, replicate, share, subst, suc, sum_by, sum_by-cons, sym, true, unwrap_or, with_less, zero, ℕ, ◌%◌, ◌&&◌, ◌+◌, ◌/◌, ◌∙◌, ◌∷◌, ◌≡◌, ◌≤◌}
use Rattle.hd_heap.proofs.{Areas.area_empty, Areas.falses, Areas.free_area, GenerationSums.number_less, HeapValues.blank, RegionReads.IsHeap, RegionReads.count_is, RegionReads.get-objects, RegionReads.get-regions, RegionReads.in_use, RegionReads.objects_at, RegionReads.regions_at, RegionReads.seen, RegionReads.used_is, RegionSums.cells_sum, RegionSums.count_sum, RegionSums.sum-numbered, RegionSums.sum-ones, RegionWrites.same_maps}
use Rattle.hd_cells.proofs.Contents.{empty_laid_out}
use Rattle.std.specs.Box.{with_value}
use Rattle.std.specs.FinMap as fin

-- ---- the regions of one generation, with free ones in place of all others

abbrev blank_area : Area → Area
blank_area a = record a {
  region = with_value a.region empty_region;
  held = false;
  cards = replicate 8 false;
  live = 0;
  count = 0;
}

abbrev only : ℕ → Area → Area
only g a = cond (a.held && nat_eq a.generation g) a (blank_area a)

only_is : (g : ℕ) (a : Area) → IsArea a → IsArea (only g a)
only_is g a is = by (a.held && nat_eq a.generation g)
  where
    by : (t : Bool) → IsArea (cond t a (blank_area a))
    by true = is
    by false = area_empty (blank_area a)
        (record { held = refl; contents_are = refl; cards = falses 8; live = refl; count = refl })
        empty_laid_out is.generation (length-replicate 8 false)

mapped_at : (f : Area → Area) (areas : List Area) (k : ℕ)
    → get_or (map Some (map f areas)) k None ≡ option_map f (get_or (map Some areas) k None)
mapped_at f [] k = refl
mapped_at f (a ∷ areas) zero = refl
mapped_at f (a ∷ areas) (suc k) = mapped_at f areas k

only_at : (g : ℕ) (areas : List Area) (r : ℕ)
    → area_at (map (only g) areas) r ≡ option_map (only g) (area_at areas r)
only_at g areas zero = refl
only_at g areas (suc k) = mapped_at (only g) areas k

only_each : (g : ℕ) (areas : List Area) → ((r : ℕ) (a : Area) → area_at areas r ≡ Some a → IsArea a)
    → (r : ℕ) (x : Area) → area_at (map (only g) areas) r ≡ Some x → IsArea x
only_each g areas each r x e = by (area_at areas r) (each r) (sym (only_at g areas r) ∙ e)
  where
    by : (o : Option Area) → ((a : Area) → o ≡ Some a → IsArea a) → option_map (only g) o ≡ Some x → IsArea x
    by None is none = absurd (cc none)
    by (Some a) is some = let same : only g a ≡ x = cc some in subst IsArea same (only_is g a (is a refl))

-- a number of these regions
only_sum : (g : ℕ) (f : Area → ℕ) → ((a : Area) → f (blank_area a) ≡ 0) → (areas : List Area)
    → sum_by (λ (a : Area). cond (a.held && nat_eq a.generation g) (f a) 0) areas ≡ sum_by f (map (only g) areas)
only_sum g f none [] = refl
only_sum g f none (a ∷ areas) =
    let part : Area → ℕ = λ x. cond (x.held && nat_eq x.generation g) (f x) 0 in
    let left = sum_by-cons part a areas in
    let right = sum_by-cons f (only g a) (map (only g) areas) in
    omega (arith, by (a.held && nat_eq a.generation g), left, right, only_sum g f none areas)
  where
    by : (t : Bool) → cond t (f a) 0 ≡ f (cond t a (blank_area a))
    by true = refl
    by false = sym (none a)

-- the generation of what may be a region in use
abbrev age_in : Option Region → ℕ
age_in o = (unwrap_or o blank).generation

neither : {A : Type 0} (t : Bool) → cond {A = Option A} t None None ≡ None
neither true = refl
neither false = refl

bare : (a : Area) (j : ℕ) → contents a ≡ empty_region → placed_in (Some a) j ≡ None
bare a j empty = ap (λ (c : Contents). option_map placed_of (fin.get c.objects j)) empty
    ∙ ap (option_map placed_of) (fin.get-empty nat_cmp j)

placed_only : (g : ℕ) (o : Option Area) (j : ℕ) → ((a : Area) → o ≡ Some a → IsArea a)
    → placed_in (option_map (only g) o) j ≡ cond (nat_eq (age_in (region_in o)) g) (placed_in o j) None
placed_only g None j each = sym (neither (nat_eq 0 g))
placed_only g (Some a) j each = by a.held refl
  where
    pick : (t : Bool) → placed_in (Some (cond t a (blank_area a))) j ≡ cond t (placed_in (Some a) j) None
    pick true = refl
    pick false = bare (blank_area a) j refl

    by : (b : Bool) → a.held ≡ b → placed_in (Some (cond (b && nat_eq a.generation g) a (blank_area a))) j
        ≡ cond (nat_eq (age_in (cond b (Some (seen a)) None)) g) (placed_in (Some a) j) None
    by true held = pick (nat_eq a.generation g)
    by false free = bare (blank_area a) j refl ∙ sym (neither (nat_eq 0 g))
        ∙ ap (λ o. cond (nat_eq 0 g) o None) (sym (bare a j ((each a refl).free free)))

region_only : (g : ℕ) (o : Option Area)
    → region_in (option_map (only g) o) ≡ cond (nat_eq (age_in (region_in o)) g) (region_in o) None
region_only g None = sym (neither (nat_eq 0 g))
region_only g (Some a) = by a.held refl
  where
    by : (b : Bool) → a.held ≡ b → region_in (Some (cond (b && nat_eq a.generation g) a (blank_area a)))
        ≡ cond (nat_eq (age_in (cond b (Some (seen a)) None)) g) (cond b (Some (seen a)) None) None
    by true held = pick (nat_eq a.generation g)
      where
        pick : (t : Bool) → region_in (Some (cond t a (blank_area a))) ≡ cond t (Some (seen a)) None
        pick true = in_use a held
        pick false = refl
    by false free = sym (neither (nat_eq 0 g))

-- the regions in use of a list
abbrev one : Region → ℕ
one r = 1

held_sum : (areas : List Area) → sum_by (λ (a : Area). cond a.held 1 0) areas ≡ fin.len (regions_in areas)
held_sum areas =
    let known = sum_by-cons (share one) None (map region_in (map Some areas)) in
    omega (
      arith,
      along areas,
      known,
      sum-numbered one 0 (map region_in (from_one areas)),
      sum-ones (regions_in areas),
    )
  where
    by : (a : Area) (b : Bool) → cond b 1 0 ≡ share one (cond b (Some (seen a)) None)
    by a true = refl
    by a false = refl

    along : (xs : List Area) → sum_by (λ (a : Area). cond a.held 1 0) xs
        ≡ sum_by (share one) (map region_in (map Some xs))
    along [] = refl
    along (a ∷ xs) =
        let left = sum_by-cons (λ (x : Area). cond x.held 1 0) a xs in
        let right = sum_by-cons (share one) (region_in (Some a)) (map region_in (map Some xs)) in
        omega (arith, by a a.held, left, right, along xs)

-- ---- all three generations together

-- a number that a region has where it is in use is in one of its three parts
three : (b : Bool) (age n : ℕ) → age ≤ 2 → cond b n 0
    ≡ cond (b && nat_eq age 0) n 0 + cond (b && nat_eq age 1) n 0 + cond (b && nat_eq age 2) n 0
three false age n low = refl
three true zero n low = omega arith
three true (suc zero) n low = omega arith
three true (suc (suc zero)) n low = omega arith
three true (suc (suc (suc age))) n low = absurd (omega arith)

-- a free region has none of it
number_held : (a : Area) → IsArea a → (a.count ≡ cond a.held a.count 0) × (a.live ≡ cond a.held a.live 0)
number_held a is = by a.held refl
  where
    by : (b : Bool) → a.held ≡ b → (a.count ≡ cond b a.count 0) × (a.live ≡ cond b a.live 0)
    by true held = (refl, refl)
    by false free = free_area a is free

abbrev parts : Measure → Area → ℕ
parts m a = part_of m 0 a + part_of m 1 a + part_of m 2 a

sum_parts : (f : Area → ℕ) (m : Measure) (areas : List Area)
    → ((k : ℕ) (a : Area) → get_or (map Some areas) k None ≡ Some a → f a ≡ parts m a)
    → sum_by f areas ≡ sum_by (part_of m 0) areas + sum_by (part_of m 1) areas + sum_by (part_of m 2) areas
sum_parts f m [] same = refl
sum_parts f m (a ∷ areas) same =
    let youngest = sum_by-cons (part_of m 0) a areas in
    let middle = sum_by-cons (part_of m 1) a areas in
    let oldest = sum_by-cons (part_of m 2) a areas in
    let rest = sum_parts f m areas (λ k x e. same (suc k) x e) in
    omega (arith, same 0 a refl, rest, youngest, middle, oldest, sum_by-cons f a areas)

module _ {areas : List Area} {numbers : List ℕ} {limit capacity cells objects holds : ℕ}
    {notes : ℕ × Bool × Bool} {h : Heap}
    (heap : IsHeap areas numbers limit capacity (cells, objects, holds) notes h) where
  -- what is aged is what these regions have
  objects_only : (g : ℕ) → objects_in (map (only g) areas) ≡ aged_objects h g
  objects_only g = same_maps (λ q.
      let test : ℕ → Bool = λ a. nat_eq (region_generation h (a / REGION)) g in
      let r = q / REGION in
      get-objects (map (only g) areas) q ∙ ap (λ o. placed_in o (q % REGION)) (only_at g areas r)
      ∙ placed_only g (area_at areas r) (q % REGION) (heap.kept.each r)
      ∙ (λ i. cond (nat_eq (age_in (sym (regions_at heap r) i)) g) (sym (objects_at heap q) i) None)
      ∙ sym (fin.get-retain_keys h.objects test q
      (λ x tie. ap test (sym (fin.nat_cmp-IsAntisymmetric q x tie)))))

  regions_only : (g : ℕ) → regions_in (map (only g) areas) ≡ aged_regions h g
  regions_only g = same_maps (λ r.
      let test : ℕ → Bool = λ q. nat_eq (region_generation h q) g in
      get-regions (map (only g) areas) r ∙ ap region_in (only_at g areas r)
      ∙ region_only g (area_at areas r)
      ∙ ap (λ o. cond (nat_eq (age_in o) g) o None) (sym (regions_at heap r))
      ∙ sym (fin.get-retain_keys h.regions test r
      (λ x tie. ap test (sym (fin.nat_cmp-IsAntisymmetric r x tie)))))

  pub size_is : (g : ℕ) {s : GenerationSize} → HasShare areas g s → HasSize h g s
  size_is g has =
      let each = only_each g areas heap.kept.each in
      record {
        objects = has.numbers of_objects ∙ only_sum g (λ (a : Area). a.count) (λ a. refl) areas
            ∙ count_sum (map (only g) areas) each ∙ ap fin.len (objects_only g);
        cells = has.numbers of_cells ∙ only_sum g (λ (a : Area). a.live) (λ a. refl) areas
            ∙ cells_sum (map (only g) areas) each
            ∙ ap (λ (m : fin.FinMap nat_cmp Placed). sum_by cells_of (fin.values m)) (objects_only g);
        regions = has.numbers of_regions ∙ (λ i. sum_by (λ (a : Area). held (nat_eq a.generation g) a.held i) areas)
            ∙ only_sum g (λ (a : Area). cond a.held 1 0) (λ a. refl) areas
            ∙ held_sum (map (only g) areas) ∙ ap fin.len (regions_only g);
      }
    where
      held : (t b : Bool) → cond {A = ℕ} (b && t) 1 0 ≡ cond (b && t) (cond b 1 0) 0
      held t true = refl
      held t false = refl

  -- what there is of all generations
  total : (m : Measure) → number_in m (record { objects = objects; cells = cells; regions = holds })
      ≡ sum_by (part_of m 0) areas + sum_by (part_of m 1) areas + sum_by (part_of m 2) areas
  total of_objects = heap.kept.counts ∙ sum_parts (λ (a : Area). a.count) of_objects areas (λ k a e.
      let is = heap.kept.each (suc k) a e in
      (number_held a is).0 ∙ three a.held a.generation a.count is.generation)
  total of_cells = heap.kept.lives ∙ sum_parts (λ (a : Area). a.live) of_cells areas (λ k a e.
      let is = heap.kept.each (suc k) a e in
      (number_held a is).1 ∙ three a.held a.generation a.live is.generation)
  total of_regions = heap.kept.held ∙ sym (held_sum areas)
      ∙ sum_parts (λ (a : Area). cond a.held 1 0) of_regions areas (λ k a e.
      three a.held a.generation 1 (heap.kept.each (suc k) a e).generation)

  module _ {o : Older} (has : HasOlder areas o) {whole rest youngest : GenerationSize}
      (whole_is : whole ≡ record { objects = objects; cells = cells; regions = holds })
      (rest_is : rest ≡ with_less whole o.middle) (is : youngest ≡ with_less rest o.oldest) where
    pub youngest_share : HasShare areas 0 youngest
    youngest_share = record {
      numbers = λ m.
          let all = ap (number_in m) whole_is ∙ total m in
          let less = ap (number_in m) rest_is ∙ number_less m whole o.middle in
          let left = ap (number_in m) is ∙ number_less m rest o.oldest in
          omega (arith, all, less, left, has.middle.numbers m, has.oldest.numbers m);
    }

    all_numbers : (m : Measure) → number_in m youngest + number_in m o.middle + number_in m o.oldest
        ≡ number_in m (record { objects = objects; cells = cells; regions = holds })
    all_numbers m = omega (
      arith,
      total m,
      youngest_share.numbers m,
      has.middle.numbers m,
      has.oldest.numbers m,
    )

    pub whole_sizes : IsWhole h (record { youngest = youngest; middle = o.middle; oldest = o.oldest })
    whole_sizes = record {
      objects = all_numbers of_objects ∙ count_is heap;
      cells = all_numbers of_cells ∙ used_is heap;
      regions = all_numbers of_regions ∙ heap.kept.held ∙ ap (λ (x : Heap). fin.len x.regions) heap.view;
    }
