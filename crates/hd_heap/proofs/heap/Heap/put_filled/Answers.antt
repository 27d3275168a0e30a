use Rattle.hd_heap.proofs.Basics.{Addr, HEADER, HasRoom, None, Placed, REGION, Region, ap, arith, cond, deque_capacity, eq-eqb, get_or, length, length-map, or_parts, refl, region_at, region_generation, region_of, set, sym, with_put, ℕ, ◌*◌, ◌+◌, ◌-◌, ◌<◌, ◌∙◌, ◌≡◌, ◌≤◌}
use Rattle.hd_heap.specs.{Calls.filled_object, Inside.region_filled, Inside.stored_target}
use Rattle.hd_heap.proofs.{FieldFill.filled_placed, GenerationSums.older_put, HeapLeft.left_put, HeapLeft.room_inside, HeapValues.made, HeapValues.room_was, RegionChanges.address_stored, RegionChanges.index_free, RegionChanges.object_put, RegionChanges.put_fits, RegionReads.IsHeap, RegionReads.IsHeldAt, RegionReads.closed, RegionReads.held_index, RegionReads.held_read, RegionReads.left_read, RegionReads.opened, RegionReads.used_is}
use Rattle.hd_heap.proofs.heap.Heap.put_filled.Goals.{After-index_mut}
use Rattle.hd_heap.proofs.heap.Heap.put_filled.Goals as goal

-- an address is in the region of which it is an offset
in_region : (at : Addr) (r offset : ℕ) → at.0 ≡ r * REGION + offset → offset < REGION → region_of at ≡ r
unfolding region_of
in_region at r offset is low = omega (arith, is, low)

pub overflow_sub-index : goal.overflow_sub-index
overflow_sub-index c =
    let room = room_inside c.self.inside c.self.view_is c.self.invariant.3 (length c.args.src.now + HEADER)
    (omega arith) (omega (arith, c.if-cells-self.false)) in
    let i = held_index (opened c.self.inside c.self.view_is c.self.invariant) {k = c.self.inside.current - 1}
    room.0.held refl in
    omega (arith, i.0)

pub index_mut-requires : goal.index_mut-requires
index_mut-requires c =
    let room = room_inside c.self.inside c.self.view_is c.self.invariant.3 (length c.args.src.now + HEADER)
    (omega arith) (omega (arith, c.if-cells-self.false)) in
    let i = held_index (opened c.self.inside c.self.view_is c.self.invariant) {k = c.self.inside.current - 1}
    room.0.held refl in
    omega (arith, i.1)

-- the region, and its room
located : (c : After-index_mut) → IsHeldAt c.self.inside.areas.items c.args.self.now c.self.inside.current
    (c.self.inside.current - 1) c.index_mut.result.now
    × HasRoom c.args.self.now c.self.inside.current (length c.args.src.now + HEADER)
    × (c.self.inside.used + (length c.args.src.now + HEADER) ≤ c.args.self.now.limit)
located c =
    let room = room_inside c.self.inside c.self.view_is c.self.invariant.3 (length c.args.src.now + HEADER)
    (omega arith) (omega (arith, c.if-cells-self.false)) in (
      held_read (opened c.self.inside c.self.view_is c.self.invariant) room.0.held refl
          c.index_mut.ensures.value,
      room.0,
      room.1,
    )

pub put_filled-offset-requires : goal.put_filled-offset-requires
put_filled-offset-requires c =
    let (at, has, _) = located ((goal.at.put_filled-offset-requires c).After-index_mut) in
    record {
      area = at.area;
      held = at.held;
      identified = c.requires.identified;
      few = c.requires.few_fields;
      sources = c.requires.sources;
      room = omega (arith, has.room, ap (λ (x : Region). x.fill) at.region);
    }

pub overflow_add-self : goal.overflow_add-self
overflow_add-self c =
    let fits = put_fits (opened c.self.inside c.self.view_is c.self.invariant)
    {size = length c.args.src.now + HEADER} (omega (arith, c.requires.few_fields)) in
    omega (arith, fits.0)

pub overflow_add-self-2 : goal.overflow_add-self-2
overflow_add-self-2 c =
    let fits = put_fits (opened c.self.inside c.self.view_is c.self.invariant) {size = 0} (omega arith) in
    omega (arith, fits.1)

pub address_in-requires-clause-region : goal.address_in-requires-clause-region
address_in-requires-clause-region c =
    let (at, _, _) = located ((goal.at.address_in-requires-clause-region c).After-index_mut) in
    let few = (opened c.self.inside c.self.view_is c.self.invariant).kept.few in
    omega (arith, at.index.number, at.index.within, few)

-- the object, as it was asked for
abbrev filled : (c : After-index_mut) → Placed
filled c =
    filled_object c.args.id c.args.value c.args.registered c.args.targets.now c.args.first c.args.src.now

cells : (c : After-index_mut) → length (filled c).fields ≡ length c.args.src.now
cells c = length-map c.args.src.now (λ (i : ℕ). get_or c.args.targets.now (c.args.first + i) None)

put : (c : goal.After-address_in)
    → IsHeap (set c.self.inside.areas.items (c.self.inside.current - 1) c.put_filled-offset.new.self)
    c.self.inside.free.items c.self.inside.limit (deque_capacity c.self.inside.free)
    (c.self.inside.used + (length c.args.src.now + HEADER), c.self.inside.count + 1, c.self.inside.held)
    (c.self.inside.current, c.self.inside.carding, c.note.new.flag)
    (with_put c.args.self.now c.self.inside.current
    (region_generation c.args.self.now c.self.inside.current)
    (filled ((goal.at.returns c).After-index_mut)))
put c =
    let heap = opened c.self.inside c.self.view_is c.self.invariant in
    let (at, has, _) = located ((goal.at.returns c).After-index_mut) in
    let g = λ (i : ℕ). stored_target (get_or c.args.targets.now (c.args.first + i) None) in
    object_put heap (region_filled c.args.id.0 c.args.value c.args.registered c.args.targets.now c.args.first
    c.args.src.now) (filled ((goal.at.returns c).After-index_mut)) (length c.args.src.now + HEADER)
    (filled_placed c.args.targets.now (λ y is. address_stored heap y (c.requires.objects y is)) c.args.id.0
    c.args.value c.args.registered c.args.first c.args.src.now)
    (ap (λ n. n + HEADER) (sym (length-map c.args.src.now g))) at c.put_filled-offset.ensures.area
    (omega (arith, has.room, ap (λ (x : Region). x.fill) at.region)) c.put_filled-offset.ensures.put
    (λ off. (or_parts _ _ (sym c.note.ensures ∙ off)).0)
    (λ off. (or_parts _ _ (sym c.note.ensures ∙ off)).1)

pub invariant_of-self : goal.invariant_of-self
invariant_of-self c =
    let is = (goal.at.invariant_of-self c).After-index_mut in
    let (at, has, _) = located is in
    let s = c.self.inside in
    let size = length c.args.src.now + HEADER in
    closed (put c)
    (left_put c.args.self.now s.current s.used s.left s.current size (s.left - size) (filled is)
    (left_read s c.self.view_is c.self.invariant.3) (omega (arith, cells is))
    (sym (ap (λ b. cond b (s.left - size) 0) (eq-eqb s.current s.current refl))))
    (older_put at.index _ _ at.held (sym (ap (λ (x : Region). x.generation) at.region) ∙ has.young)
    c.put_filled-offset.ensures.put c.self.invariant.4)

pub returns : goal.returns
returns c =
    let is = (goal.at.returns c).After-index_mut in
    let heap = opened c.self.inside c.self.view_is c.self.invariant in
    let (at, has, fits) = located is in
    let fill = ap (λ (x : Region). x.fill) at.region in
    let r = c.self.inside.current in
    let address : c.address_in.result.0 ≡ r * REGION + (region_at c.args.self.now r).fill =
    omega (arith, c.address_in.ensures, c.put_filled-offset.ensures.offset, fill) in
    made c.args.self.now c.args.self.now _ r (length c.args.src.now + HEADER) c.address_in.result (filled is)
    (omega (arith, fits, used_is heap, cells is))
    (room_was c.args.self.now r (length c.args.src.now + HEADER) has) address
    (in_region c.address_in.result r (region_at c.args.self.now r).fill address (omega (arith, has.room)))
    (index_free heap c.address_in.result at (omega (arith, has.room, fill)) address) (put c).view
