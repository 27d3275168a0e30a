-- Lemmas on the objects of a region by their headers.
use Rattle.hd_heap.proofs.Basics.{Addr, Area, Bool, Contents, HEADER, Header, Heap, IsFirstFrom, IsFirstIn, IsFirstObject, IsHeader, IsObject, IsWalkIn, List, None, Placed, REGION, Some, address, ap, arith, cases_lt, contents, get, has_object, inl, inr, is_some, length, length-map, object_at, option_map, placed_at, placed_of, refl, region_of, subst, sym, unwrap_or, ℕ, ◌%◌, ◌*◌, ◌+◌, ◌/◌, ◌∙◌, ◌≡◌, ◌≤◌}
use Rattle.hd_heap.proofs.{Areas.object_there, HeapValues.no_placed, RegionReads.IsHeap, RegionReads.IsHeldAt, RegionReads.has-get, RegionReads.is_some_map, RegionReads.read_in}

-- a walk begins
pub walk_begins : {areas : List Area} {numbers : List ℕ} {limit capacity cells objects holds : ℕ}
    {notes : ℕ × Bool × Bool} {h : Heap}
    → IsHeap areas numbers limit capacity (cells, objects, holds) notes h → {r k : ℕ} {a : Area}
    → IsHeldAt areas h r k a → (s : Contents) → s ≡ contents a → IsWalkIn h r 0 s
walk_begins {h = h} heap {r} at s is = subst (IsWalkIn h r 0) (sym is) (record {
  held = at.there;
  number = omega (arith, at.index.number, at.index.within, heap.kept.few);
  reads = read_in heap at.index;
  laid_out = at.area.laid_out;
  ends = inl refl;
})

module _ {h : Heap} {region end : ℕ} {r : Contents} (w : IsWalkIn h region end r) where
  -- where an object is
  pub object_low : (k : ℕ) → IsObject r k → k + HEADER ≤ REGION
  object_low k there = omega (arith, w.laid_out.below_fill k there, w.laid_out.within_region)

  pub header_end : (d : Header) → IsObject r d.at → IsHeader r d.at d → d.at + d.fields + HEADER ≤ REGION
  header_end d there says =
      omega (arith, w.laid_out.below_fill d.at there, w.laid_out.within_region, says.fields)

  -- an object of the heap in this region, as the region has it
  has_here : (a : Addr) → region_of a ≡ region
      → has_object h a ≡ is_some (get r.objects (a.0 % REGION))
  unfolding region_of
  has_here a same =
      let whole : a.0 ≡ region * REGION + a.0 % REGION = omega (arith, same) in
      has-get h a ∙ ap (λ n. is_some (get h.objects n)) whole
      ∙ ap is_some (w.reads (a.0 % REGION) (omega arith))
      ∙ is_some_map placed_of (get r.objects (a.0 % REGION))

  -- the first object by its header
  module _ (d : Header) (x : Addr) (is : x.0 ≡ region * REGION + d.at)
      (first : IsFirstFrom r end (Some d.at)) (says : IsHeader r d.at d) where
    low : d.at + HEADER ≤ REGION
    low = object_low d.at first.1

    placed_here : placed_at h x ≡ placed_of (object_at r d.at)
    placed_here =
        ap (λ o. unwrap_or o no_placed)
        (ap (get h.objects) is ∙ w.reads d.at (omega (arith, low))
        ∙ ap (option_map placed_of) (object_there r d.at first.1))

    pub first_header : IsFirstObject h region end
        (record { at = x; fields = d.fields; registered = d.registered })
    unfolding region_of
    first_header =
        let same : x.0 / REGION ≡ region = omega (arith, is, low) in
        let off : x.0 % REGION ≡ d.at = omega (arith, is, low) in
        record {
          object = has_here x same ∙ ap (λ k. is_some (get r.objects k)) off ∙ first.1;
          region = same;
          beyond = omega (arith, is, first.0);
          least = λ a has from. elim (cases_lt a.0 x.0) [
            | inl before ↦
                let here : a.0 / REGION ≡ region = omega (arith, is, low, from, before) in
                absurd (first.2 (a.0 % REGION) (omega (arith, here, from)) (omega (arith, here, is, before))
                (sym (has_here a here) ∙ has))
            | inr after ↦ after
          ];
          fields = says.fields ∙ sym (length-map (object_at r d.at).fields address)
              ∙ sym (ap (λ (q : Placed). length q.fields) placed_here);
          registered = says.registered ∙ sym (ap (λ (q : Placed). q.registered) placed_here);
        }

    -- and the walk after it
    pub walk_next : (end2 : ℕ) → end2 ≡ d.at + d.fields + HEADER → IsWalkIn h region end2 r
    walk_next end2 end_is = record {
      held = w.held;
      number = w.number;
      reads = w.reads;
      laid_out = w.laid_out;
      ends = inr (d.at, (first.1, omega (arith, end_is, says.fields)));
    }

  pub no_header : IsFirstFrom r end None → IsFirstIn h region end None
  unfolding region_of
  no_header none a has same = elim (cases_lt a.0 (region * REGION + end)) [
    | inl below ↦ below
    | inr from ↦ absurd (none (a.0 % REGION) (omega (arith, same, from)) (sym (has_here a same) ∙ has))
  ]
