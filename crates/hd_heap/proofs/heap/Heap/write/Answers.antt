use Rattle.hd_heap.proofs.Basics.{Bool, HasPart, Placed, REGION, ap, arith, contents, deque_capacity, false, object_at, or_parts, placed_at, region_with_part, registers, set, subst, sym, with_object, with_part, ◌%◌, ◌||◌, ◌∙◌, ◌≡◌}
use Rattle.hd_heap.proofs.{GenerationSums.older_written, RegionReads.closed, RegionReads.left_read, RegionReads.opened, RegionReads.index_within, RegionReads.found_read, RegionReads.IsHeap, RegionReads.noted, RegionWrites.object_written, RegionWrites.part_placed, RegionWrites.part_within, HeapNotes.noted_written, HeapNotes.part_noted}
use Rattle.hd_heap.proofs.heap.Heap.write.Goals.{After-write}
use Rattle.hd_heap.proofs.heap.Heap.write.Goals as goal

pub index_mut-requires : goal.index_mut-requires
index_mut-requires c =
    let i = index_within (opened c.self.inside c.self.view_is c.self.invariant) c.args.at c.requires.object
    c.index_of.ensures in
    omega (arith, i)

pub write-requires : goal.write-requires
write-requires c =
    let f = found_read (opened c.self.inside c.self.view_is c.self.invariant) c.args.at c.requires.object
    c.index_of.ensures c.index_mut.ensures.value in
    rw c.offset_of.ensures (record {
      area = f.located.area;
      object = f.object;
      within = part_within (object_at (contents c.index_mut.result.now) (c.args.at.0 % REGION)) c.args.part
          (subst (λ (p : Placed). HasPart p.fields c.args.part) f.placed c.requires.within);
    })

written : (c : After-write) → IsHeap (set c.self.inside.areas.items c.index_of.result c.write.new.self)
    c.self.inside.free.items c.self.inside.limit (deque_capacity c.self.inside.free)
    (c.self.inside.used, c.self.inside.count, c.self.inside.held)
    (c.self.inside.current, c.self.inside.carding, c.noted-self-inside.result)
    (with_object c.args.self.now c.args.at (with_part (placed_at c.args.self.now c.args.at) c.args.part))
written c =
    let heap = opened c.self.inside c.self.view_is c.self.invariant in
    let f = found_read heap c.args.at c.requires.object c.index_of.ensures c.index_mut.ensures.value in
    let old = object_at (contents c.index_mut.result.now) (c.args.at.0 % REGION) in
    let lower : c.noted-self-inside.result ≡ false → (c.self.inside.registering || registers c.args.part) ≡ false =
    λ off. ap (λ (b : Bool). c.self.inside.registering || b) (sym c.registers.ensures)
    ∙ sym c.noted-self-inside.ensures ∙ off in
    object_written heap c.args.at (region_with_part old c.args.part) _
    (part_placed old c.args.part ∙ ap (λ p. with_part p c.args.part) (sym f.placed)) f c.write.ensures.area
    (rw c.offset_of.ensures at c.write.ensures.written) (noted_written (noted heap) _
    (λ off. (or_parts _ _ (lower off)).0) (λ off. part_noted (placed_at c.args.self.now c.args.at) c.args.part
    c.self.inside.registering (lower off)
    (λ none. (noted heap).flags.registrations none c.args.at c.requires.object)) c.args.at)

pub invariant_of-self : goal.invariant_of-self
invariant_of-self c =
    let f = found_read (opened c.self.inside c.self.view_is c.self.invariant) c.args.at c.requires.object
    c.index_of.ensures c.index_mut.ensures.value in
    closed (written ((goal.at.invariant_of-self c).After-write))
    (left_read c.self.inside c.self.view_is c.self.invariant.3)
    (older_written f.located.index _ _ _ c.write.ensures.written c.self.invariant.4)

pub returns : goal.returns
returns c = (written ((goal.at.returns c).After-write)).view
