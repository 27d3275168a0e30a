use Rattle.hd_heap.proofs.Basics.{Area, Contents, IsObject, REGION, Region, ap, area_put, arith, cells_of, contents, deque_capacity, object_at, placed_at, region_at, set, size_of, sym, with_copy, ◌*◌, ◌+◌, ◌∙◌, ◌≡◌}
use Rattle.hd_heap.proofs.{FieldForward.put_placed, GenerationSums.older_more, GenerationSums.shares_small, RegionSums.cells_placed, RegionReads.closed_none, RegionReads.opened, RegionReads.noted, RegionReads.held_index, RegionReads.held_read, RegionReads.IsHeap, RegionReads.IsHeldAt, RegionChanges.object_put, RegionChanges.index_free, RegionChanges.put_fits}
use Rattle.hd_heap.proofs.heap.Heap.copy_into.Goals.{After-fill-cells, After-index_mut}
use Rattle.hd_heap.proofs.heap.Heap.copy_into.Goals as goal

pub index_mut-requires : goal.index_mut-requires
index_mut-requires c =
    let i = held_index (opened c.self.inside c.self.view_is c.self.invariant) c.requires.held
    c.index_of.ensures in
    omega (arith, i.1)

-- the object, as it is in the region between
between : (c : After-fill-cells)
    → let o = object_at (contents c.area_of-offset.result.0.now) c.area_of-offset.result.1 in
    IsObject c.put_copy-first.new.self c.put_copy-first.result
    × (object_at c.put_copy-first.new.self c.put_copy-first.result ≡ o) × (c.fill-cells.result ≡ size_of o)
    × (cells_of (placed_at c.args.self.now c.args.from) ≡ size_of o)
between c =
    let was = ap (λ (r : Contents). object_at r c.area_of-offset.result.1) c.deref.ensures in
    let (there, same) = put_placed c.empty-copy.result c.put_copy-first.new.self c.put_copy-first.result _
    c.put_copy-first.ensures.offset c.put_copy-first.ensures.put in (
      there,
      same ∙ was,
      omega (
        arith,
        c.fill-cells.ensures.value,
        ap (λ (r : Contents). r.fill) c.put_copy-first.ensures.put,
        ap (λ (r : Contents). r.fill) c.empty-copy.ensures.empty,
        ap size_of was,
      ),
      ap cells_of c.area_of-offset.ensures.placed
          ∙ cells_placed (object_at (contents c.area_of-offset.result.0.now) c.area_of-offset.result.1),
    )

located : (c : After-index_mut) → IsHeldAt c.self.inside.areas.items c.args.self.now c.args.region
    c.index_of.result c.index_mut.result.now
located c = held_read (opened c.self.inside c.self.view_is c.self.invariant) c.requires.held c.index_of.ensures
    c.index_mut.ensures.value

pub put_copy-end-requires : goal.put_copy-end-requires
put_copy-end-requires c =
    let at = located ((goal.at.put_copy-end-requires c).After-index_mut) in
    let (there, same, _, cells) = between ((goal.at.put_copy-end-requires c).After-fill-cells) in
    record {
      area = at.area;
      held = at.held;
      object = there;
      room = omega (arith, c.requires.room, ap (λ (x : Region). x.fill) at.region, cells, ap size_of same);
    }

pub overflow_add-self : goal.overflow_add-self
overflow_add-self c =
    let size = (between ((goal.at.overflow_add-self c).After-fill-cells)).2 in
    let o = c.area_of-offset.ensures in
    let fits = put_fits (opened c.self.inside c.self.view_is c.self.invariant) {size = c.fill-cells.result}
    (omega (arith, size, (o.area.laid_out.well_formed _ o.object).few_fields)) in
    omega (arith, fits.0)

pub overflow_add-self-2 : goal.overflow_add-self-2
overflow_add-self-2 c =
    let fits = put_fits (opened c.self.inside c.self.view_is c.self.invariant) {size = 0} (omega arith) in
    omega (arith, fits.1)

pub address_in-requires-clause-region : goal.address_in-requires-clause-region
address_in-requires-clause-region c =
    let heap = opened c.self.inside c.self.view_is c.self.invariant in
    let index = held_index heap c.requires.held c.index_of.ensures in
    omega (arith, c.index_of.ensures, index.0, index.1, heap.kept.few)

put : (c : goal.After-address_in)
    → IsHeap (set c.self.inside.areas.items c.index_of.result c.put_copy-end.new.self) c.self.inside.free.items
    c.self.inside.limit (deque_capacity c.self.inside.free)
    (c.self.inside.used + c.fill-cells.result, c.self.inside.count + 1, c.self.inside.held)
    (c.self.inside.current, c.self.inside.carding, c.self.inside.registering)
    (with_copy c.args.self.now c.args.from c.args.region)
put c =
    let heap = opened c.self.inside c.self.view_is c.self.invariant in
    let at = held_read heap c.requires.held c.index_of.ensures c.index_mut.ensures.value in
    let (_, same, size, cells) = between ((goal.at.invariant_of-self c).After-fill-cells) in
    object_put heap _ (placed_at c.args.self.now c.args.from) c.fill-cells.result
    (sym c.area_of-offset.ensures.placed) size at c.put_copy-end.ensures.area
    (omega (arith, c.requires.room, ap (λ (x : Region). x.fill) at.region, size, cells))
    (c.put_copy-end.ensures.put ∙ ap (area_put c.index_mut.result.now) same) (λ off. off)
    (λ off. (noted heap).flags.registrations off c.args.from c.requires.object)

pub invariant_of-self : goal.invariant_of-self
invariant_of-self c =
    let at = located ((goal.at.invariant_of-self c).After-index_mut) in
    let (_, same, size, _) = between ((goal.at.invariant_of-self c).After-fill-cells) in
    let was = c.put_copy-end.ensures.put in
    closed_none (put c) (older_more at.index _ (shares_small (put c)) at.held (ap (λ (x : Area). x.held) was)
    (c.region_generation-generation.ensures ∙ ap (λ (x : Region). x.generation) at.region)
    (ap (λ (x : Area). x.generation) was) (ap (λ (x : Area). x.count) was)
    (omega (arith, ap (λ (x : Area). x.live) was, size, ap size_of same)) c.size.ensures c.add.ensures
    c.self.invariant.4)

pub returns : goal.returns
returns c =
    let heap = opened c.self.inside c.self.view_is c.self.invariant in
    let at = located ((goal.at.returns c).After-index_mut) in
    let fill = ap (λ (x : Region). x.fill) at.region in
    let address : c.address_in.result.0 ≡ c.args.region * REGION + (region_at c.args.self.now c.args.region).fill =
    omega (arith, c.address_in.ensures, c.put_copy-end.ensures.offset, fill) in
    record {
      address = address;
      was_free = index_free heap c.address_in.result at (omega (arith, c.requires.room, fill)) address;
      copied = (put c).view;
    }
