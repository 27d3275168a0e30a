-- What the regions of generations 1 and 2 have together, as one region of a heap changes.
use Rattle.hd_heap.proofs.Basics.{Area, Bool, GenerationSize, HasOlder, HasShare, Heap, IsArea, IsFreed, IsObject, IsTaken, List, Measure, Object, Older, REGION, [], ap, area_put, area_written, arith, cond, contents, false, length-set, min, nat_eq, no_older, number_in, number_of, of_cells, of_objects, of_regions, part_of, refl, set, set-set, subst, suc, sum_by, sum_by-append, sum_by-cons, sym, true, with_added, with_less, with_more, with_taken, ℕ, ◌&&◌, ◌++◌, ◌+◌, ◌-◌, ◌<◌, ◌^◌, ◌∙◌, ◌∷◌, ◌≡◌, ◌≤◌}
use Rattle.hd_heap.proofs.{Areas.count_at, Areas.count_small, Areas.free_area, Areas.live_at, HeapSoundness.sum_small, RegionReads.IsHeap, RegionReads.IsIndex, RegionReads.area_here, RegionWrites.sum_set}

-- ---- one region

-- what a region in use adds, and what a free one does
held_part : (m : Measure) (g : ℕ) (a : Area) → a.held ≡ true
    → part_of m g a ≡ cond (nat_eq a.generation g) (number_of m a) 0
held_part m g a held = ap (λ t. cond (t && nat_eq a.generation g) (number_of m a) 0) held

free_part : (m : Measure) (g : ℕ) (a : Area) → a.held ≡ false → part_of m g a ≡ 0
free_part m g a free = ap (λ t. cond (t && nat_eq a.generation g) (number_of m a) 0) free

young_part : (m : Measure) (g : ℕ) (a : Area) → nat_eq 0 g ≡ false → a.held ≡ true → a.generation ≡ 0
    → part_of m g a ≡ 0
young_part m g a other held young = held_part m g a held
    ∙ ap (λ n. cond (nat_eq n g) (number_of m a) 0) young ∙ ap (λ t. cond t (number_of m a) 0) other

written_part : (m : Measure) (g : ℕ) (a : Area) (at : ℕ) (o : Object)
    → part_of m g (area_written a at o) ≡ part_of m g a
written_part of_objects g a at o = refl
written_part of_cells g a at o = refl
written_part of_regions g a at o = refl

carded_part : (m : Measure) (g : ℕ) (a : Area) (cards : List Bool)
    → part_of m g (record a { cards = cards }) ≡ part_of m g a
carded_part of_objects g a cards = refl
carded_part of_cells g a cards = refl
carded_part of_regions g a cards = refl

part_low : (m : Measure) (g : ℕ) (a : Area) → IsArea a → part_of m g a ≤ REGION
part_low m g a is = low (a.held && nat_eq a.generation g) (number_of m a) (number m)
  where
    low : (t : Bool) (n : ℕ) → n ≤ REGION → cond t n 0 ≤ REGION
    low true n few = few
    low false n few = omega arith

    number : (m : Measure) → number_of m a ≤ REGION
    number of_objects = omega (arith, count_small a is)
    number of_cells = omega (arith, is.within, is.laid_out.within_region)
    number of_regions = omega arith

-- one region has more than another one, of a generation
record Grows (generation : ℕ) (n : GenerationSize) (a b : Area) : Type 0 where
  is : (m : Measure) (g : ℕ) → part_of m g a + cond (nat_eq generation g) (number_in m n) 0 ≡ part_of m g b

-- it is in use as before
grows_in_use : {a b : Area} {generation objects cells : ℕ} {n : GenerationSize} → a.held ≡ true → b.held ≡ true
    → generation ≡ a.generation → b.generation ≡ a.generation → b.count ≡ a.count + objects
    → b.live ≡ a.live + cells → n ≡ record { objects = objects; cells = cells; regions = 0 }
    → Grows generation n a b
grows_in_use {a} {b} {n = n} held still is same count live n_is = record {
  is = λ m g. (λ i. held_part m g a held i + cond (nat_eq (is i) g) (number_in m n) 0)
      ∙ either (nat_eq a.generation g) (number_of m a) (number_in m n)
      ∙ (λ i. cond (nat_eq (sym same i) g) (sym (more m) i) 0) ∙ sym (held_part m g b still);
}
  where
    either : (t : Bool) (x y : ℕ) → cond t x 0 + cond t y 0 ≡ cond t (x + y) 0
    either true x y = refl
    either false x y = refl

    more : (m : Measure) → number_of m b ≡ number_of m a + number_in m n
    more of_objects = omega (arith, count, ap (λ (s : GenerationSize). s.objects) n_is)
    more of_cells = omega (arith, live, ap (λ (s : GenerationSize). s.cells) n_is)
    more of_regions = omega (arith, ap (λ (s : GenerationSize). s.regions) n_is)

-- it was free, and all that it has is more
grows_begun : {a b : Area} {generation objects cells : ℕ} {n : GenerationSize} → a.held ≡ false → b.held ≡ true
    → generation ≡ b.generation → objects ≡ b.count → cells ≡ b.live
    → n ≡ record { objects = objects; cells = cells; regions = 1 } → Grows generation n a b
grows_begun {a} {b} {n = n} free held is count live n_is = record {
  is = λ m g. (λ i. free_part m g a free i + cond (nat_eq (is i) g) (all m i) 0)
      ∙ plain (cond (nat_eq b.generation g) (number_of m b) 0) ∙ sym (held_part m g b held);
}
  where
    plain : (x : ℕ) → 0 + x ≡ x
    plain x = omega arith

    all : (m : Measure) → number_in m n ≡ number_of m b
    all of_objects = ap (λ (s : GenerationSize). s.objects) n_is ∙ count
    all of_cells = ap (λ (s : GenerationSize). s.cells) n_is ∙ live
    all of_regions = ap (λ (s : GenerationSize). s.regions) n_is

-- ---- all regions

-- no number of a generation has more than 32 bits
pub record AreSmall (areas : List Area) : Type 0 where
  small : (m : Measure) (g : ℕ) → sum_by (part_of m g) areas < 2 ^ 32

pub shares_small : {areas : List Area} {numbers : List ℕ} {limit capacity cells objects holds : ℕ}
    {notes : ℕ × Bool × Bool} {h : Heap}
    → IsHeap areas numbers limit capacity (cells, objects, holds) notes h → AreSmall areas
shares_small {areas} heap = record {
  small = λ m g.
      let small = sum_small (part_of m g) areas (λ k a e. part_low m g a (heap.kept.each (suc k) a e)) in
      omega (arith, small, heap.kept.few);
}

number_more : (m : Measure) (s n : GenerationSize)
    → number_in m (with_more s n) ≡ min (number_in m s + number_in m n) (2 ^ 32 - 1)
number_more of_objects s n = refl
number_more of_cells s n = refl
number_more of_regions s n = refl

pub number_less : (m : Measure) (s n : GenerationSize)
    → number_in m (with_less s n) ≡ number_in m s - number_in m n
number_less of_objects s n = refl
number_less of_cells s n = refl
number_less of_regions s n = refl

module _ {areas : List Area} {r k : ℕ} {a : Area} (p : IsIndex areas r k a) (b : Area) where
  share_same : {g : ℕ} {s : GenerationSize} → ((m : Measure) → part_of m g b ≡ part_of m g a)
      → HasShare areas g s → HasShare (set areas k b) g s
  share_same {g} same has = record {
    numbers = λ m. omega (arith, has.numbers m, same m, sum_set p b (part_of m g));
  }

  share_grown : (g : ℕ) {generation : ℕ} {s n new : GenerationSize} → AreSmall (set areas k b)
      → Grows generation n a b → new ≡ cond (nat_eq generation g) (with_more s n) s → HasShare areas g s
      → HasShare (set areas k b) g new
  share_grown g {generation} {s} {n} {new} few more is has =
      record { numbers = λ m. by m (nat_eq generation g) (more.is m g) is }
    where
      by : (m : Measure) (t : Bool) → part_of m g a + cond t (number_in m n) 0 ≡ part_of m g b
          → new ≡ cond t (with_more s n) s → number_in m new ≡ sum_by (part_of m g) (set areas k b)
      by m true more is = ap (number_in m) is ∙ number_more m s n
          ∙ omega (arith, has.numbers m, more, few.small m g, sum_set p b (part_of m g))
      by m false more is = ap (number_in m) is ∙ omega (arith, has.numbers m, more, sum_set p b (part_of m g))

  share_shrunk : (g : ℕ) {generation : ℕ} {s n new : GenerationSize} → Grows generation n b a
      → new ≡ cond (nat_eq generation g) (with_less s n) s → HasShare areas g s → HasShare (set areas k b) g new
  share_shrunk g {generation} {s} {n} {new} more is has =
      record { numbers = λ m. by m (nat_eq generation g) (more.is m g) is }
    where
      by : (m : Measure) (t : Bool) → part_of m g b + cond t (number_in m n) 0 ≡ part_of m g a
          → new ≡ cond t (with_less s n) s → number_in m new ≡ sum_by (part_of m g) (set areas k b)
      by m true more is = ap (number_in m) is ∙ number_less m s n
          ∙ omega (arith, has.numbers m, more, sum_set p b (part_of m g))
      by m false more is = ap (number_in m) is ∙ omega (arith, has.numbers m, more, sum_set p b (part_of m g))

  older_same : {o : Older} → ((m : Measure) (g : ℕ) → nat_eq 0 g ≡ false → part_of m g b ≡ part_of m g a)
      → HasOlder areas o → HasOlder (set areas k b) o
  older_same same has = record {
    middle = share_same (λ m. same m 1 refl) has.middle;
    oldest = share_same (λ m. same m 2 refl) has.oldest;
  }

  older_grown : {generation : ℕ} {n : GenerationSize} {o new : Older} → AreSmall (set areas k b)
      → Grows generation n a b → new ≡ with_added o generation n → HasOlder areas o
      → HasOlder (set areas k b) new
  older_grown few more is has = record {
    middle = share_grown 1 few more (ap (λ (x : Older). x.middle) is) has.middle;
    oldest = share_grown 2 few more (ap (λ (x : Older). x.oldest) is) has.oldest;
  }

  older_shrunk : {generation : ℕ} {n : GenerationSize} {o new : Older} → Grows generation n b a
      → new ≡ with_taken o generation n → HasOlder areas o → HasOlder (set areas k b) new
  older_shrunk more is has = record {
    middle = share_shrunk 1 more (ap (λ (x : Older). x.middle) is) has.middle;
    oldest = share_shrunk 2 more (ap (λ (x : Older). x.oldest) is) has.oldest;
  }

  -- an object is written
  pub older_written : (at : ℕ) (x : Object) {o : Older} → b ≡ area_written a at x → HasOlder areas o
      → HasOlder (set areas k b) o
  older_written at x is = older_same (λ m g _. ap (part_of m g) is ∙ written_part m g a at x)

  -- a region of generation 0 got an object
  pub older_put : (x : Object) {o : Older} → a.held ≡ true → a.generation ≡ 0 → b ≡ area_put a x
      → HasOlder areas o → HasOlder (set areas k b) o
  older_put x held young is = older_same (λ m g other.
      young_part m g b other (ap (λ (y : Area). y.held) is ∙ held)
      (ap (λ (y : Area). y.generation) is ∙ young) ∙ sym (young_part m g a other held young))

  -- a region of any generation got some
  pub older_more : {generation objects cells : ℕ} {n : GenerationSize} {o new : Older}
      → AreSmall (set areas k b) → a.held ≡ true → b.held ≡ a.held → generation ≡ a.generation
      → b.generation ≡ a.generation → b.count ≡ a.count + objects → b.live ≡ a.live + cells
      → n ≡ record { objects = objects; cells = cells; regions = 0 } → new ≡ with_added o generation n
      → HasOlder areas o → HasOlder (set areas k b) new
  older_more few held still is same count live n_is =
      older_grown few (grows_in_use held (still ∙ held) is same count live n_is)

  -- a free region was taken into use
  pub older_begun : {generation : ℕ} {n : GenerationSize} {o new : Older} → AreSmall (set areas k b)
      → IsArea a → a.held ≡ false → b ≡ record a { held = true; generation = generation }
      → n ≡ record { objects = 0; cells = 0; regions = 1 } → new ≡ with_added o generation n
      → HasOlder areas o → HasOlder (set areas k b) new
  older_begun few area free is n_is =
      let none = free_area a area free in
      older_grown few (grows_begun free (ap (λ (y : Area). y.held) is)
      (sym (ap (λ (y : Area). y.generation) is))
      (omega (arith, none.0, ap (λ (y : Area). y.count) is))
      (omega (arith, none.1, ap (λ (y : Area). y.live) is)) n_is)

  -- a region lost an object
  pub older_removed : {at cells generation : ℕ} {n : GenerationSize} {o new : Older} → IsArea a → a.held ≡ true
      → IsObject (contents a) at → IsTaken a b at cells → generation ≡ a.generation
      → n ≡ record { objects = 1; cells = cells; regions = 0 } → new ≡ with_taken o generation n
      → HasOlder areas o → HasOlder (set areas k b) new
  older_removed {at} area held there taken is n_is =
      let count = count_at a area at there in
      let live = live_at a area at there in
      let same = ap (λ (y : Area). y.generation) taken.is in
      older_shrunk (grows_in_use (ap (λ (y : Area). y.held) taken.is ∙ held) held (is ∙ sym same) (sym same)
      (omega (arith, count, ap (λ (y : Area). y.count) taken.is))
      (omega (arith, live, taken.size, ap (λ (y : Area). y.live) taken.is)) n_is)

  -- a region was given up
  pub older_given_up : {objects cells generation : ℕ} {n : GenerationSize} {o new : Older} → a.held ≡ true
      → IsFreed b → generation ≡ a.generation → objects ≡ a.count → cells ≡ a.live
      → n ≡ record { objects = objects; cells = cells; regions = 1 } → new ≡ with_taken o generation n
      → HasOlder areas o → HasOlder (set areas k b) new
  older_given_up held free is count live n_is = older_shrunk (grows_begun free.held held is count live n_is)

module _ {areas : List Area} {r k : ℕ} {a : Area} (p : IsIndex areas r k a) where
  -- a card is set or cleared
  pub older_carded : (cards : List Bool) {o : Older} → HasOlder areas o
      → HasOlder (set areas k (record a { cards = cards })) o
  older_carded cards =
      older_same p (record a { cards = cards }) (λ m g _. carded_part m g a cards)

  -- a region got another generation: the old one has less, and then the new one has more
  pub older_moved : {was : ℕ} (generation : ℕ) {n : GenerationSize} {o mid new : Older}
      → AreSmall (set areas k (record a { generation = generation })) → a.held ≡ true
      → was ≡ a.generation → n ≡ record { objects = a.count; cells = a.live; regions = 1 }
      → mid ≡ with_taken o was n → new ≡ with_added mid generation n → HasOlder areas o
      → HasOlder (set areas k (record a { generation = generation })) new
  older_moved generation {new = new} few held was n_is taken added has =
      let b : Area = record a { generation = generation } in
      let free : Area = record a { held = false } in
      let again : set (set areas k free) k b ≡ set areas k b = set-set areas k free b in
      let long = length-set areas k free in
      let q : IsIndex (set areas k free) r k free = record {
        number = p.number;
        within = omega (arith, long, p.within);
        here = area_here p free;
      } in
      let without = older_shrunk p free (grows_begun refl held was refl refl n_is) taken has in
      subst (λ xs. HasOlder xs new) again (older_grown q b (subst AreSmall (sym again) few)
      (grows_begun refl held refl refl refl n_is) added without)

-- ---- the list written in another way, with a free region more, and without regions

pub older_lists : {areas areas2 : List Area} {o : Older} → areas2 ≡ areas → HasOlder areas o
    → HasOlder areas2 o
older_lists {o = o} e = subst (λ xs. HasOlder xs o) (sym e)

pub older_pushed : {areas : List Area} (b : Area) {o : Older} → b.held ≡ false → HasOlder areas o
    → HasOlder (areas ++ b ∷ []) o
older_pushed {areas} b free has = record { middle = more has.middle; oldest = more has.oldest }
  where
    more : {g : ℕ} {s : GenerationSize} → HasShare areas g s → HasShare (areas ++ b ∷ []) g s
    more {g} share = record {
      numbers = λ m.
          let known = sum_by-append (part_of m g) areas (b ∷ []) in
          omega (arith, share.numbers m, known, sum_by-cons (part_of m g) b [], free_part m g b free);
    }

pub older_none : {areas : List Area} {o : Older} → areas ≡ [] → o ≡ no_older → HasOlder areas o
older_none none is = subst (λ (w : List Area × Older). HasOlder w.0 w.1) (λ i. (sym none i, sym is i))
    (record { middle = record { numbers = nothing 1 }; oldest = record { numbers = nothing 2 } })
  where
    nothing : (g : ℕ) (m : Measure) → number_in m (record { objects = 0; cells = 0; regions = 0 })
        ≡ sum_by (part_of m g) []
    nothing g of_objects = refl
    nothing g of_cells = refl
    nothing g of_regions = refl
