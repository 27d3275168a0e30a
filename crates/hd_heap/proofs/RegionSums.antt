-- Sums over the objects of a heap, region by region.
use Rattle.hd_heap.proofs.Basics.{Area, HEADER, IsArea, List, None, Object, Option, Placed, REGION, Some, [], address, ap, area_at, arith, by_index, cases_lt, cells_of, contents, find-numbered_below, get-by_index, get_or, get_or_past, inl, inr, length-map, map, nat_cmp, nat_cmp_total, numbered, objects_in, option_map, placed_in, placed_of, refl, share, size_of, suc, sum-insert, sum_by, sum_by-append, sum_by-cons, sum_ones, sym, table, tables, zero, ℕ, ◌+◌, ◌∙◌, ◌∷◌, ◌≡◌, ◌≤◌}
use Rattle.hd_heap.proofs.{Areas.absent, Areas.sum_none, IndexedLists.length-table, IndexedLists.get_or-table}
use Rattle.std.specs.FinMap as fin

-- the items of a list by their indices
pub sum-numbered : {A : Type 0} (f : A → ℕ) (i : ℕ) (os : List (Option A))
    → sum_by f (fin.values (fin.from_entries {R = nat_cmp} (numbered i os))) ≡ sum_by (share f) os
sum-numbered f i [] = sum_none f
sum-numbered f i (None ∷ os) = omega (arith, sum-numbered f (i + 1) os, sum_by-cons (share f) None os)
sum-numbered f i (Some x ∷ os) =
    let rest = fin.from_entries {R = nat_cmp} (numbered (i + 1) os) in
    let none : fin.get rest i ≡ None =
    fin.get-from_entries nat_cmp_total (numbered (i + 1) os) i
    ∙ find-numbered_below (i + 1) i os (omega arith) in
    let known = sum_by-cons (share f) (Some x) os in
    omega (arith, sum-numbered f (i + 1) os, known, sum-insert f rest i x, ap (share f) none)

sum-tables : {A B : Type 0} (g : B → ℕ) (n : ℕ) (f : A → ℕ → B) (xs : List A)
    → sum_by g (tables n f xs) ≡ sum_by (λ x. sum_by g (table n (f x))) xs
unfolding tables
sum-tables g n f [] = refl
sum-tables g n f (x ∷ xs) =
    let known = sum_by-cons (λ y. sum_by g (table n (f y))) x xs in
    omega (arith, sum_by-append g (table n (f x)) (tables n f xs), sum-tables g n f xs, known)

sum-nothing : {A : Type 0} (f : A → ℕ) (n : ℕ) → sum_by (share f) (table n (λ k. None)) ≡ 0
unfolding table
sum-nothing f zero = refl
sum-nothing f (suc n) =
    omega (arith, sum-nothing f n, sum_by-cons (share f) None (table n (λ k. None)))

sum-mapped : {A B : Type 0} (f : B → ℕ) (p : A → B) (n : ℕ) (g : ℕ → Option A)
    → sum_by (share f) (table n (λ k. option_map p (g k))) ≡ sum_by (share (λ x. f (p x))) (table n g)
unfolding table
sum-mapped f p zero g = refl
sum-mapped f p (suc n) g =
    let known = sum_by-cons (share f) (option_map p (g 0)) (table n (λ k. option_map p (g (suc k)))) in
    let also = sum_by-cons (share (λ x. f (p x))) (g 0) (table n (λ k. g (suc k))) in
    omega (arith, sum-mapped f p n (λ k. g (suc k)), same (g 0), known, also)
  where
    same : (o : Option _) → share f (option_map p o) ≡ share (λ x. f (p x)) o
    same None = refl
    same (Some x) = refl

-- a map that has nothing from n on is the table of its first n entries
as_table : {A : Type 0} (n : ℕ) (m : fin.FinMap nat_cmp A) → ((q : ℕ) → n ≤ q → fin.get m q ≡ None)
    → by_index (table n (fin.get m)) ≡ m
as_table n m none = fin.same_map nat_cmp_total fin.nat_cmp-IsAntisymmetric _ _ (λ q.
    get-by_index (table n (fin.get m)) q ∙ elim (cases_lt q n) [
      | inl below ↦ get_or-table n (fin.get m) q None below
      | inr past ↦ get_or_past (table n (fin.get m)) q None (omega (arith, length-table n (fin.get m), past))
          ∙ sym (none q past)
    ])

-- the objects of one region
sum-area : (f : Placed → ℕ) (a : Area) → IsArea a → sum_by (share f) (table REGION (placed_in (Some a)))
    ≡ sum_by (λ o. f (placed_of o)) (fin.values (contents a).objects)
sum-area f a is =
    let m = (contents a).objects in
    let g : Object → ℕ = λ o. f (placed_of o) in
    let none : (q : ℕ) → REGION ≤ q → fin.get m q ≡ None = λ q past. absent (contents a) q (λ there. omega (
      arith,
      past,
      is.laid_out.below_fill q there,
      is.laid_out.within_region,
    )) in
    sum-mapped f placed_of REGION (fin.get m) ∙ sym (sum-numbered g 0 (table REGION (fin.get m)))
    ∙ ap (λ (x : fin.FinMap nat_cmp Object). sum_by g (fin.values x)) (as_table REGION m none)

-- what each region counts of its objects is counted of all
module _ (f : Placed → ℕ) (g : Area → ℕ)
    (counts : (a : Area) → IsArea a
    → g a ≡ sum_by (λ o. f (placed_of o)) (fin.values (contents a).objects)) where
  sum-each : (areas : List Area) → ((k : ℕ) (a : Area) → get_or (map Some areas) k None ≡ Some a → IsArea a)
      → sum_by g areas ≡ sum_by (λ o. sum_by (share f) (table REGION (placed_in o))) (map Some areas)
  sum-each [] each = refl
  sum-each (a ∷ areas) each =
      let is = each 0 a refl in
      let known = sum-each areas (λ k x e. each (suc k) x e) in
      let also = sum_by-cons (λ o. sum_by (share f) (table REGION (placed_in o))) (Some a) (map Some areas) in
      omega (arith, known, counts a is, sum-area f a is, sum_by-cons g a areas, also)

  pub sum-objects : (areas : List Area) → ((r : ℕ) (a : Area) → area_at areas r ≡ Some a → IsArea a)
      → sum_by g areas ≡ sum_by f (fin.values (objects_in areas))
  sum-objects areas each =
      let all = None ∷ map Some areas in
      sum-each areas (λ k a e. each (suc k) a e)
      ∙ (let known = sum_by-cons (λ o. sum_by (share f) (table REGION (placed_in o))) None (map Some areas) in
      let also = sum-numbered f 0 (tables REGION placed_in all) in
      omega (arith, sum-nothing f REGION, known, sum-tables (share f) REGION placed_in all, also))

pub cells_placed : (o : Object) → cells_of (placed_of o) ≡ size_of o
cells_placed o = ap (λ n. n + HEADER) (length-map o.fields address)

-- the cells of the objects, and their number
pub cells_sum : (areas : List Area) → ((r : ℕ) (a : Area) → area_at areas r ≡ Some a → IsArea a)
    → sum_by (λ (a : Area). a.live) areas ≡ sum_by cells_of (fin.values (objects_in areas))
cells_sum areas = sum-objects cells_of (λ (a : Area). a.live)
    (λ a is. is.live ∙ (λ i. sum_by (λ o. sym (cells_placed o) i) (fin.values (contents a).objects))) areas

pub sum-ones : {A : Type 0} (m : fin.FinMap nat_cmp A) → fin.len m ≡ sum_by (λ (x : A). 1) (fin.values m)
sum-ones {A} m = fin.len-entries m ∙ sym (sum_ones (fin.values m)
    ∙ length-map (fin.entries m) (λ (e : ℕ × A). e.1))

pub count_sum : (areas : List Area) → ((r : ℕ) (a : Area) → area_at areas r ≡ Some a → IsArea a)
    → sum_by (λ (a : Area). a.count) areas ≡ fin.len (objects_in areas)
count_sum areas each = sum-objects (λ p. 1) (λ (a : Area). a.count)
    (λ a is. is.count ∙ sum-ones (contents a).objects) areas each ∙ sym (sum-ones (objects_in areas))
