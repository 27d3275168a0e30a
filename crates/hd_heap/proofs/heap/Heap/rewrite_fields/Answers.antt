use Rattle.hd_heap.proofs.Basics.{REGION, ap, arith, contents, deque_capacity, forwarded, object_at, placed_at, region_forwarded, set, sym, true, with_object, ◌%◌, ◌∙◌, ◌≡◌, ◌≢◌}
use Rattle.hd_heap.proofs.{GenerationSums.older_written, RegionReads.closed, RegionReads.left_read, RegionReads.opened, RegionReads.index_within, RegionReads.found_read, RegionReads.object_of, RegionReads.IsHeap, RegionReads.noted, RegionWrites.object_written, FieldForward.field_of, FieldForward.forwarded_placed, HeapNotes.noted_written}
use Rattle.hd_heap.proofs.heap.Heap.rewrite_fields.Given.{Over}
use Rattle.hd_heap.proofs.heap.Heap.rewrite_fields.Goals.{After-forward_fields}
use Rattle.hd_heap.proofs.heap.Heap.rewrite_fields.Goals as goal

pub index_mut-requires : goal.index_mut-requires
index_mut-requires g c =
    let i = index_within (opened c.self.inside c.self.view_is c.self.invariant) c.args.at c.requires.object
    c.index_of.ensures in
    omega (arith, i)

pub forward_fields-requires : goal.forward_fields-requires
forward_fields-requires g c =
    let f = found_read (opened c.self.inside c.self.view_is c.self.invariant) c.args.at c.requires.object
    c.index_of.ensures c.index_mut.ensures.value in
    rw c.offset_of.ensures (record {
      area = f.located.area;
      object = f.object;
      laid = c.requires.laid;
      kept = field_of (λ y. g.F.Forward.kept c.args.forward.now y ≡ true) c.args.self.now c.args.at
          (object_at (contents c.index_mut.result.now) (c.args.at.0 % REGION)).fields
          (object_of c.args.at f).fields c.requires.kept;
    })

written : (g : Over) → (c : After-forward_fields g)
    → IsHeap (set c.self.inside.areas.items c.index_of.result c.forward_fields.new.self)
    c.self.inside.free.items c.self.inside.limit (deque_capacity c.self.inside.free)
    (c.self.inside.used, c.self.inside.count, c.self.inside.held)
    (c.self.inside.current, c.self.inside.carding, c.self.inside.registering)
    (with_object c.args.self.now c.args.at
    (forwarded (g.F.Forward.forwarding c.args.forward.now) (placed_at c.args.self.now c.args.at)))
written g c =
    let heap = opened c.self.inside c.self.view_is c.self.invariant in
    let forwarding = g.F.Forward.forwarding c.args.forward.now in
    let f = found_read heap c.args.at c.requires.object c.index_of.ensures c.index_mut.ensures.value in
    let old = object_at (contents c.index_mut.result.now) (c.args.at.0 % REGION) in
    let some =
    field_of (λ y. (forwarding y).0 ≢ 0) c.args.self.now c.args.at old.fields (object_of c.args.at f).fields
    c.requires.forwardings in
    object_written heap c.args.at (region_forwarded forwarding old) _
    (forwarded_placed forwarding old some ∙ ap (forwarded forwarding) (sym f.placed)) f
    c.forward_fields.ensures.area
    (rw c.offset_of.ensures at c.forward_fields.ensures.written) (noted_written (noted heap) _ (λ off. off)
    (λ off. (noted heap).flags.registrations off c.args.at c.requires.object) c.args.at)

pub invariant_of-self : goal.invariant_of-self
invariant_of-self g c =
    let f = found_read (opened c.self.inside c.self.view_is c.self.invariant) c.args.at c.requires.object
    c.index_of.ensures c.index_mut.ensures.value in
    closed (written g ((goal.at.invariant_of-self g c).After-forward_fields))
    (left_read c.self.inside c.self.view_is c.self.invariant.3)
    (older_written f.located.index _ _ _ c.forward_fields.ensures.written c.self.invariant.4)

pub returns : goal.returns
returns g c = (written g ((goal.at.returns g c).After-forward_fields)).view
