-- Lemmas on the walk through the regions of a heap.
use Rattle.hd_heap.proofs.Basics.{Addr, Any, Area, Bool, CARD, Carded, Heap, IsArea, IsFirstAt, IsLeastBetween, IsLeastFrom, IsObject, IsSound, IsWalk, List, None, Option, REGION, Some, Wanted, and_parts, ap, area_at, arith, both_ways, card_in, card_of, cases_eq, cases_lt, contents, false, generation_at, get, has_object, inl, inr, is_condemned, is_some, is_wanted, le-leb, leb-true, length, nat_le, nat_lt, object_at_heap, refl, region_of, suc, sym, true, wants, ℕ, ◌%◌, ◌&&◌, ◌*◌, ◌+◌, ◌/◌, ◌<◌, ◌∙◌, ◌≡◌, ◌≢◌, ◌≤◌}
use Rattle.hd_heap.proofs.{RegionReads.IsIndex, RegionReads.IsHeap, RegionReads.found, RegionReads.found_at, RegionReads.has_there, RegionReads.card_at, RegionReads.object_of, WantedObjects.unwanted}

-- what is asked second is asked only where the first holds
and_same : (b c d : Bool) → (b ≡ true → c ≡ d) → (b && c) ≡ (b && d)
and_same true c d same = same refl
and_same false c d same = refl

-- what is wanted is an object
pub wanted_has : (h : Heap) (w : Wanted) (at : Addr) → is_wanted h w at ≡ true → has_object h at ≡ true
wanted_has h Any at is = is
wanted_has h (Carded n) at is = (and_parts _ _ (and_parts _ _ is).0).0

-- what is wanted lies in its region
pub wants_low : (w : Wanted) (a : Area) (off : ℕ) → IsArea a → wants w a off ≡ true → off < REGION
wants_low w a off is want = elim (cases_lt off REGION) [
  | inl low ↦ low
  | inr high ↦ absurd (both_ways _ (unwanted w a off (λ there.
      omega (arith, high, is.laid_out.below_fill off there, is.laid_out.within_region))) want)
]

-- the region of an address
pub placed : {areas : List Area} {r k : ℕ} {a : Area} → IsIndex areas r k a → (b : Addr) → b.0 / REGION ≡ r
    → IsIndex areas (b.0 / REGION) k a
placed {areas} p b same = record {
  number = same ∙ p.number;
  within = p.within;
  here = ap (area_at areas) same ∙ p.here;
}

module _ {areas : List Area} {numbers : List ℕ} {limit capacity cells objects holds : ℕ}
    {notes : ℕ × Bool × Bool} {h : Heap}
    (heap : IsHeap areas numbers limit capacity (cells, objects, holds) notes h) where
  -- what is wanted of the heap is wanted of its region
  pub wanted_in : (w : Wanted) (at : Addr) {k : ℕ} {a : Area} → IsIndex areas (at.0 / REGION) k a
      → is_wanted h w at ≡ wants w a (at.0 % REGION)
  unfolding card_of
  wanted_in w at {a = a} p = by w
    where
      has : has_object h at ≡ is_some (get (contents a).objects (at.0 % REGION))
      has = has_there heap at a p.here

      generation : has_object h at ≡ true → generation_at (object_at_heap h) at ≡ a.generation
      generation is = (object_of at (found_at heap at p is)).generation

      by : (w : Wanted) → is_wanted h w at ≡ wants w a (at.0 % REGION)
      by Any = has
      by (Carded n) =
          (λ i. and_same (has_object h at) (nat_lt n (generation_at (object_at_heap h) at)) (nat_lt n a.generation)
          (λ is j. nat_lt n (generation is j)) i && card_at heap at p i)
          ∙ ap (λ b. b && nat_lt n a.generation && card_in (Some a) ((at.0 % REGION) / CARD)) has

  -- what is condemned is an object of a region that is
  pub condemned_in : (n : ℕ) (at : Addr) {k : ℕ} {a : Area} → IsIndex areas (at.0 / REGION) k a
      → is_condemned h n at ≡ true → IsObject (contents a) (at.0 % REGION) × (a.generation ≤ n)
  condemned_in n at p is =
      let (has, young) = and_parts _ _ is in
      let f = found_at heap at p has in
      (f.object, omega (arith, leb-true _ _ young, (object_of at f).generation))

  pub condemned_there : (n : ℕ) (at : Addr) {k : ℕ} {a : Area} → IsIndex areas (at.0 / REGION) k a
      → IsObject (contents a) (at.0 % REGION) → a.generation ≤ n → is_condemned h n at ≡ true
  condemned_there n at {a = a} p there young =
      let has = has_there heap at a p.here ∙ there in
      let same = (object_of at (found_at heap at p has)).generation in
      (λ i. has i && nat_le (generation_at (object_at_heap h) at) n) ∙ le-leb _ n (omega (arith, same, young))

  -- a region whose objects are all older has none that is
  pub none_condemned : (n : ℕ) {r k : ℕ} {a : Area} → IsIndex areas r k a
      → ((j : ℕ) → IsObject (contents a) j → n < a.generation) → (b : Addr) → is_condemned h n b ≡ true
      → b.0 / REGION ≢ r
  none_condemned n p older b is same =
      let (there, young) = condemned_in n b (placed p b same) is in omega (arith, older _ there, young)

  -- what is wanted is in some region
  pub wanted_index : (w : Wanted) (at : Addr) → is_wanted h w at ≡ true → (k : ℕ) × (at.0 / REGION ≡ suc k)
      × (k < length areas)
  wanted_index w at is = let p = (found heap at (wanted_has h w at is)).2.located.index in
      ((found heap at (wanted_has h w at is)).0, p.number, p.within)

  -- the first of a region from an offset on has the least address there
  pub given_some : (w : Wanted) {r k : ℕ} {a : Area} (from off low high : ℕ) (x : Addr) → IsIndex areas r k a
      → IsFirstAt (wants w a) from (Some off) → x.0 ≡ r * REGION + off → low ≡ r * REGION + from
      → IsLeastBetween (is_wanted h w) low high (Some x)
  given_some w {r} {a = a} from off low high x p first is low_is =
      let small = wants_low w a off (heap.kept.each r a p.here) first.0 in
      let in_region : x.0 / REGION ≡ r = omega (arith, is, small) in
      let offset : x.0 % REGION ≡ off = omega (arith, is, small) in (
        wanted_in w x (placed p x in_region) ∙ ap (wants w a) offset ∙ first.0,
        omega (arith, is, first.1, low_is),
        λ b want after. elim (cases_eq (b.0 / REGION) r) [
          | inl same ↦ elim (cases_lt (b.0 % REGION) off) [
            | inl before ↦ absurd (both_ways _
                (first.2 (b.0 % REGION) (omega (arith, same, after, low_is)) before)
                (sym (wanted_in w b (placed p b same)) ∙ want))
            | inr past ↦ omega (arith, same, is, past)
          ]
          | inr other ↦ omega (arith, other, after, is, small, first.1, low_is)
        ],
      )

  -- a region without any is passed
  pub given_none : (w : Wanted) {r k : ℕ} {a : Area} (from low high : ℕ) → IsIndex areas r k a
      → IsFirstAt (wants w a) from None → low ≡ r * REGION + from → high ≡ (r + 1) * REGION
      → IsLeastBetween (is_wanted h w) low high None
  given_none w {r} from low high p none low_is high_is = λ b want after. elim (cases_eq (b.0 / REGION) r) [
    | inl same ↦ absurd (both_ways _ (none (b.0 % REGION) (omega (arith, same, after, low_is)))
        (sym (wanted_in w b (placed p b same)) ∙ want))
    | inr other ↦ omega (arith, other, after, low_is, high_is)
  ]

-- one step of a walk from the least address after another one
pub walk_from : (p : Addr → Bool) (answer : Option Addr) → IsLeastFrom p REGION answer
    → ((b : Addr) → p b ≡ true → REGION ≤ b.0) → IsWalk p None answer
walk_from p None none low = λ a want. absurd (omega (arith, none a want, low a want))
walk_from p (Some x) least low = record {
  member = least.0;
  beyond = refl;
  least = λ b want after. least.2 b want (low b want);
}

-- what is wanted has an address in a region
pub wanted_high : (h : Heap) (w : Wanted) (b : Addr) → IsSound h → is_wanted h w b ≡ true → REGION ≤ b.0
unfolding region_of
wanted_high h w b sound want =
    omega (arith, (sound.numbers (b.0 / REGION) (sound.held b (wanted_has h w b want))).0)
