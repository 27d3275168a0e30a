use Rattle.hd_heap.proofs.Basics.{Region, ap, arith, deque_capacity, set, without_region, ◌-◌, ◌∙◌}
use Rattle.hd_heap.proofs.{GenerationSums.older_given_up, RegionReads.closed_none, RegionReads.opened, RegionReads.held_index, RegionReads.held_read, RegionReads.IsHeap, RegionReads.IsHeldAt, RegionUse.cells_counted, RegionUse.objects_counted, RegionUse.region_freed, RegionUse.held_counted}
use Rattle.hd_heap.proofs.heap.Heap.give_up.Goals.{After-index_mut, After-push_back_reserved}
use Rattle.hd_heap.proofs.heap.Heap.give_up.Goals as goal

pub index_mut-requires : goal.index_mut-requires
index_mut-requires c =
    let i = held_index (opened c.self.inside c.self.view_is c.self.invariant) c.requires.held
    c.index_of.ensures in
    omega (arith, i.1)

located : (c : After-index_mut)
    → IsHeldAt c.self.inside.areas.items c.args.self.now c.args.region c.index_of.result
    c.index_mut.result.now
located c = held_read (opened c.self.inside c.self.view_is c.self.invariant) c.requires.held
    c.index_of.ensures c.index_mut.ensures.value

pub give_up-cells-requires : goal.give_up-cells-requires
give_up-cells-requires c = record { area = (located c).area }

pub overflow_sub-self : goal.overflow_sub-self
overflow_sub-self c =
    let known =
    cells_counted (opened c.self.inside c.self.view_is c.self.invariant)
    (located ((goal.at.overflow_sub-self c).After-index_mut)).index in
    omega (arith, known, c.give_up-cells.ensures.cells)

pub overflow_sub-self-2 : goal.overflow_sub-self-2
overflow_sub-self-2 c =
    let known =
    objects_counted (opened c.self.inside c.self.view_is c.self.invariant)
    (located ((goal.at.overflow_sub-self-2 c).After-index_mut)).index in
    omega (arith, known, c.give_up-cells.ensures.count)

pub overflow_sub-self-3 : goal.overflow_sub-self-3
overflow_sub-self-3 c =
    held_counted (opened c.self.inside c.self.view_is c.self.invariant) c.args.region c.requires.held

pub push_back_reserved-requires : goal.push_back_reserved-requires
push_back_reserved-requires c =
    let heap = opened c.self.inside c.self.view_is c.self.invariant in
    omega (arith, held_counted heap c.args.region c.requires.held, heap.kept.parted, heap.kept.room)

freed : (c : After-push_back_reserved)
    → IsHeap (set c.self.inside.areas.items c.index_of.result c.give_up-cells.new.self)
    c.push_back_reserved.new.self.items c.self.inside.limit (deque_capacity c.push_back_reserved.new.self) (
      c.self.inside.used - c.give_up-cells.result.0,
      c.self.inside.count - c.give_up-cells.result.1,
      c.self.inside.held - 1,
    )
    (c.self.inside.current, c.self.inside.carding, c.self.inside.registering) (without_region c.args.self.now c.args.region)
freed c =
    let heap = opened c.self.inside c.self.view_is c.self.invariant in
    let located = held_read heap c.requires.held c.index_of.ensures c.index_mut.ensures.value in
    let now = c.give_up-cells.ensures in
    region_freed heap c.give_up-cells.new.self c.give_up-cells.result.0 c.give_up-cells.result.1 located
    now.area now.freed
    now.cells now.count c.push_back_reserved.ensures.items c.push_back_reserved.ensures.capacity

pub invariant_of-self : goal.invariant_of-self
invariant_of-self c =
    let at = located ((goal.at.invariant_of-self c).After-index_mut) in
    let now = c.give_up-cells.ensures in
    closed_none (freed c) (older_given_up at.index _ at.held now.freed
    (c.region_generation-generation.ensures ∙ ap (λ (x : Region). x.generation) at.region) now.count now.cells
    c.size.ensures c.take.ensures c.self.invariant.4)

pub returns : goal.returns
returns c = (freed c).view
