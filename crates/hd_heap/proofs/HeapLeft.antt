-- What is known of the cells that are left in the region of the last new object.
use Rattle.hd_heap.proofs.Basics.{HasLeft, HasRoom, Heap, Option, Placed, REGION, Region, Some, ap, arith, cases_eq, cells_of, cond, eq-eqb, get_inserted, heap_of, inl, inr, is_some, nat_eq, ne_eqb, region_at, region_generation, sym, unwrap_or, with_fresh, with_put, ℕ, ◌+◌, ◌-◌, ◌<◌, ◌∙◌, ◌≡◌, ◌≤◌}
use Rattle.hd_heap.proofs.{HeapValues.blank, HeapValues.get_same, RegionReads.left_read}
use Rattle.hd_heap.specs.declared.heap.Heap.TheInside.{Inside}
use Rattle.std.specs.FinMap as fin

-- where less is used
pub left_fewer : (h : Heap) (current used left less : ℕ) → HasLeft h current used left → less ≤ used
    → HasLeft h current less left
left_fewer h current used left less is down some =
    let was = is some in
    let limit : less + left ≤ h.limit = omega (arith, was.3, down) in (was.0, was.1, was.2, limit)

-- there is room for what fits
pub current_room : (h : Heap) (current used left size : ℕ) → HasLeft h current used left → 0 < size → size ≤ left
    → HasRoom h current size × (used + size ≤ h.limit)
current_room h current used left size is some fits =
    let was = is (λ none. omega (arith, none, some, fits)) in
    let limit : used + size ≤ h.limit = omega (arith, was.3, fits) in
    (record { held = was.0; young = was.1; room = omega (arith, was.2, fits) }, limit)

-- the same of what a heap has inside
pub room_inside : (s : Inside) {h : Heap} → heap_of s.areas.items s.free.items s.limit ≡ h
    → HasLeft (heap_of s.areas.items s.free.items s.limit) s.current s.used s.left → (size : ℕ) → 0 < size
    → size ≤ s.left → HasRoom h s.current size × (s.used + size ≤ h.limit)
room_inside s {h} view is size some fits =
    current_room h s.current s.used s.left size (left_read s view is) some fits

-- a region is begun
pub left_begun : (h : Heap) (r used left : ℕ) → left ≤ REGION → left ≤ h.limit - used
    → HasLeft (with_fresh h r 0) r used left
left_begun h r used left room limit some =
    let got : fin.get (fin.insert h.regions r blank) r ≡ Some blank = get_inserted h.regions r blank in
    let fits : used + left ≤ h.limit = omega (arith, limit, some) in (
      ap is_some got,
      ap (λ (o : Option Region). (unwrap_or o blank).generation) got,
      omega (arith, ap (λ (o : Option Region). (unwrap_or o blank).fill) got, room),
      fits,
    )

-- an object is put
pub left_put : (h : Heap) (current used left r cells after : ℕ) (o : Placed) → HasLeft h current used left
    → cells ≡ cells_of o
    → after ≡ cond (nat_eq r current) (left - cells) 0
    → HasLeft (with_put h r (region_generation h r) o) current (used + cells) after
left_put h current used left r cells after o is size known some = elim (cases_eq r current) [
  | inl same ↦
      let rest : after ≡ left - cells = known ∙ ap (λ b. cond b (left - cells) 0) (eq-eqb r current same) in
      let was = is (λ none. omega (arith, some, rest, none)) in
      let x : Region = record {
        generation = region_generation h r;
        fill = (region_at h r).fill + cells_of o;
      } in
      let got : fin.get (fin.insert h.regions r x) current ≡ Some x = get_same h.regions r current x (sym same) in
      let fits : used + cells + after ≤ h.limit = omega (arith, was.3, rest, some) in (
        ap is_some got,
        ap (λ (y : Option Region). (unwrap_or y blank).generation) got ∙ ap (region_generation h) same ∙ was.1,
        omega (
          arith,
          ap (λ (y : Option Region). (unwrap_or y blank).fill) got,
          ap (λ (q : ℕ). (region_at h q).fill) same,
          was.2,
          size,
          rest,
          some,
        ),
        fits,
      )
  | inr apart ↦ absurd (some (known ∙ ap (λ b. cond b (left - cells) 0) (ne_eqb r current apart)))
]
