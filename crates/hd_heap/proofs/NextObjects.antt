-- The objects of a condemned region, one after another, for callers that walk over it.
use Rattle.hd_heap.proofs.Basics.{Addr, Heap, IsFirstIn, IsFirstObject, IsSound, None, ObjectHeader, Option, Placed, REGION, Some, and_parts, ap, arith, cases_eq, end_in, generation_at, generation_in, has_object, inl, inr, is_condemned, is_some, le-leb, nat_le, object_at_heap, object_in, option_map, refl, region_generation, region_of, true, ℕ, ◌&&◌, ◌*◌, ◌+◌, ◌/◌, ◌<◌, ◌∙◌, ◌≡◌, ◌≤◌}

-- the first condemned object from an address on
pub record IsNextFrom (h : Heap) (n bound : ℕ) (at : Addr) : Type 0 where
  pub member : is_condemned h n at ≡ true
  pub from : bound ≤ at.0
  pub least : (a : Addr) → is_condemned h n a ≡ true → bound ≤ a.0 → at.0 ≤ a.0

-- the generation of an object is that of its region
pub generation_is : (h : Heap) (a : Addr) → has_object h a ≡ true
    → generation_at (object_at_heap h) a ≡ region_generation h (region_of a)
generation_is h a is = by (region_generation h (region_of a)) _ is
  where
    by : (g : ℕ) (o : Option Placed) → is_some (option_map (object_in g) o) ≡ true
        → generation_in (option_map (object_in g) o) ≡ g
    by g None e = absurd (cc e)
    by g (Some p) e = refl

-- what is condemned is an object
pub condemned_has : (h : Heap) (n : ℕ) (a : Addr) → is_condemned h n a ≡ true → has_object h a ≡ true
condemned_has h n a is = (and_parts _ _ is).0

module _ (h : Heap) (n : ℕ) (sound : IsSound h) {r : ℕ} (young : region_generation h r ≤ n) {end : ℕ}
    {o : ObjectHeader} (is : IsFirstObject h r end o) where
  pub generation_same : generation_at (object_at_heap h) o.at ≡ region_generation h r
  generation_same = generation_is h o.at is.object ∙ ap (region_generation h) is.region

  -- the next object is condemned, and no condemned one is before it
  pub next_from : IsNextFrom h n (r * REGION + end) o.at
  next_from = record {
    member =
        (λ i. is.object i && nat_le (generation_at (object_at_heap h) o.at) n)
        ∙ le-leb (generation_at (object_at_heap h) o.at) n (omega (arith, generation_same, young));
    from = is.beyond;
    least = λ a condemned from. is.least a (condemned_has h n a condemned) from;
  }

  -- where it ends
  pub end_within : end_in r o ≤ REGION
  unfolding region_of
  end_within = omega (
    arith,
    is.fields,
    is.region,
    sound.within o.at is.object,
    sound.fills (o.at.0 / REGION) (sound.held o.at is.object),
  )

  pub end_later : (end < end_in r o) × (o.at.0 + 1 ≤ r * REGION + end_in r o)
  unfolding region_of
  end_later = (omega (arith, is.beyond, is.region), omega (arith, is.region))

  pub none_inside : (a : Addr) → is_condemned h n a ≡ true → o.at.0 + 1 ≤ a.0
      → r * REGION + end_in r o ≤ a.0
  unfolding region_of
  none_inside a condemned later = omega (
    arith,
    is.fields,
    is.region,
    sound.apart o.at a is.object (condemned_has h n a condemned) (omega (arith, later)),
  )

-- after the last object of a region no condemned one is in it
pub none_left : (h : Heap) (n r end : ℕ) → IsFirstIn h r end None → (a : Addr) → is_condemned h n a ≡ true
    → r * REGION + end ≤ a.0 → (r + 1) * REGION ≤ a.0
unfolding region_of
none_left h n r end none a condemned from = elim (cases_eq (a.0 / REGION) r) [
  | inl same ↦ absurd (omega (arith, none a (condemned_has h n a condemned) same, from))
  | inr other ↦ omega (arith, other, from)
]
