use Rattle.hd_heap.proofs.Basics.{Addr, HEADER, None, Option, REGION, Region, ap, arith, deque_capacity, length-replicate, new_object, new_region_object, or_parts, region_at, region_generation, region_of, set, size_of, sym, with_put, ℕ, ◌*◌, ◌+◌, ◌∙◌, ◌≡◌}
use Rattle.hd_heap.proofs.{GenerationSums.older_put, RegionReads.closed, RegionReads.left_read, RegionReads.opened, RegionReads.held_index, RegionReads.held_read, RegionReads.IsHeap, RegionChanges.object_put, RegionChanges.index_free, RegionChanges.new_placed, RegionChanges.put_fits}
use Rattle.hd_heap.proofs.HeapLeft.{left_put}
use Rattle.hd_heap.proofs.heap.Heap.put.Goals.{After-put-offset}
use Rattle.hd_heap.proofs.heap.Heap.put.Goals as goal

pub index_mut-requires : goal.index_mut-requires
index_mut-requires c =
    let i = held_index (opened c.self.inside c.self.view_is c.self.invariant) c.requires.held
    c.index_of.ensures in
    omega (arith, i.1)

pub put-offset-requires : goal.put-offset-requires
put-offset-requires c =
    let at = held_read (opened c.self.inside c.self.view_is c.self.invariant) c.requires.held
    c.index_of.ensures c.index_mut.ensures.value in
    record {
      area = at.area;
      held = at.held;
      identified = c.requires.identified;
      few_fields = c.requires.few_fields;
      room = omega (arith, c.requires.room, ap (λ (x : Region). x.fill) at.region);
    }

pub overflow_add-self-2 : goal.overflow_add-self-2
overflow_add-self-2 c =
    let fits = put_fits (opened c.self.inside c.self.view_is c.self.invariant) {size = c.args.fields + HEADER}
    (omega (arith, c.requires.few_fields)) in
    omega (arith, fits.0)

pub overflow_add-self-3 : goal.overflow_add-self-3
overflow_add-self-3 c =
    let fits = put_fits (opened c.self.inside c.self.view_is c.self.invariant) {size = 0} (omega arith) in
    omega (arith, fits.1)

pub address_in-requires-clause-region : goal.address_in-requires-clause-region
address_in-requires-clause-region c =
    let heap = opened c.self.inside c.self.view_is c.self.invariant in
    let index = held_index heap c.requires.held c.index_of.ensures in
    omega (arith, c.index_of.ensures, index.0, index.1, heap.kept.few)

put : (c : After-put-offset) → IsHeap (set c.self.inside.areas.items c.index_of.result c.put-offset.new.self)
    c.self.inside.free.items c.self.inside.limit (deque_capacity c.self.inside.free)
    (c.self.inside.used + (c.args.fields + HEADER), c.self.inside.count + 1, c.self.inside.held)
    (c.self.inside.current, c.self.inside.carding, c.noted-self-inside.result)
    (with_put c.args.self.now c.args.region (region_generation c.args.self.now c.args.region)
    (new_object c.args.id c.args.fields c.args.registered))
put c =
    let heap = opened c.self.inside c.self.view_is c.self.invariant in
    let at = held_read heap c.requires.held c.index_of.ensures c.index_mut.ensures.value in
    let o = new_region_object c.args.id.0 c.args.fields c.args.registered in
    let size : c.args.fields + HEADER ≡ size_of o =
    ap (λ n. n + HEADER) (sym (length-replicate c.args.fields (let z : ℕ = 0 in z))) in
    object_put heap o (new_object c.args.id c.args.fields c.args.registered) (c.args.fields + HEADER)
    (new_placed c.args.id.0 c.args.fields c.args.registered) size at c.put-offset.ensures.area
    (omega (arith, c.requires.room, ap (λ (x : Region). x.fill) at.region)) c.put-offset.ensures.put
    (λ off. (or_parts _ _ (sym c.noted-self-inside.ensures ∙ off)).0)
    (λ off. (or_parts _ _ (sym c.noted-self-inside.ensures ∙ off)).1)

pub invariant_of-self : goal.invariant_of-self
invariant_of-self c =
    let null : Option Addr = None in
    let at = held_read (opened c.self.inside c.self.view_is c.self.invariant) c.requires.held
    c.index_of.ensures c.index_mut.ensures.value in
    closed (put ((goal.at.invariant_of-self c).After-put-offset))
    (left_put c.args.self.now c.self.inside.current c.self.inside.used c.self.inside.left c.args.region
    (c.args.fields + HEADER) c.left_after-self-inside.result
    (new_object c.args.id c.args.fields c.args.registered)
    (left_read c.self.inside c.self.view_is c.self.invariant.3)
    (omega (arith, length-replicate c.args.fields null)) c.left_after-self-inside.ensures)
    (older_put at.index _ _ at.held (sym (ap (λ (x : Region). x.generation) at.region) ∙ c.requires.young)
    c.put-offset.ensures.put c.self.invariant.4)

pub returns : goal.returns
unfolding region_of
returns c =
    let heap = opened c.self.inside c.self.view_is c.self.invariant in
    let at = held_read heap c.requires.held c.index_of.ensures c.index_mut.ensures.value in
    let fill = ap (λ (x : Region). x.fill) at.region in
    let offset = c.put-offset.ensures.offset in
    let address : c.address_in.result.0 ≡ c.args.region * REGION +
    (region_at c.args.self.now c.args.region).fill =
    omega (arith, c.address_in.ensures, offset, fill) in
    record {
      address = address;
      region = omega (arith, address, fill, c.requires.room);
      was_free = index_free heap c.address_in.result at (omega (arith, c.requires.room, fill)) address;
      put = (put ((goal.at.returns c).After-put-offset)).view;
    }
