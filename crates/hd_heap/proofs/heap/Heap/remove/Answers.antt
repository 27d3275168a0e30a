use Rattle.hd_heap.proofs.Basics.{Heap, IsRemoved, arith, subst, sym, ◌-◌, ◌∙◌}
use Rattle.hd_heap.proofs.{GenerationSums.older_removed, RegionReads.closed, RegionReads.left_read, RegionReads.opened, RegionReads.index_within, RegionReads.found_read, RegionReads.object_of, RegionChanges.object_removed, RegionChanges.removed_cards, RegionChanges.counted}
use Rattle.hd_heap.proofs.HeapLeft.{left_fewer}
use Rattle.hd_heap.proofs.heap.Heap.remove.Goals as goal

pub index_mut-requires : goal.index_mut-requires
index_mut-requires c =
    let i = index_within (opened c.self.inside c.self.view_is c.self.invariant) c.args.at c.requires
    c.index_of.ensures in
    omega (arith, i)

pub remove-cells-requires : goal.remove-cells-requires
remove-cells-requires c =
    let f = found_read (opened c.self.inside c.self.view_is c.self.invariant) c.args.at c.requires
    c.index_of.ensures c.index_mut.ensures.value in
    rw c.offset_of.ensures (record { area = f.located.area; object = f.object })

pub overflow_sub-self : goal.overflow_sub-self
overflow_sub-self c =
    let heap = opened c.self.inside c.self.view_is c.self.invariant in
    let f = found_read heap c.args.at c.requires c.index_of.ensures c.index_mut.ensures.value in
    (counted heap c.args.at f (rw c.offset_of.ensures at c.remove-cells.ensures.taken)).0

pub overflow_sub-self-2 : goal.overflow_sub-self-2
overflow_sub-self-2 c =
    let heap = opened c.self.inside c.self.view_is c.self.invariant in
    let f = found_read heap c.args.at c.requires c.index_of.ensures c.index_mut.ensures.value in
    (counted heap c.args.at f (rw c.offset_of.ensures at c.remove-cells.ensures.taken)).1

pub invariant_of-self : goal.invariant_of-self
invariant_of-self c =
    let heap = opened c.self.inside c.self.view_is c.self.invariant in
    let f = found_read heap c.args.at c.requires c.index_of.ensures c.index_mut.ensures.value in
    let taken = rw c.offset_of.ensures at c.remove-cells.ensures.taken in
    closed (object_removed heap c.args.at f c.remove-cells.ensures.area taken)
    (left_fewer c.args.self.now c.self.inside.current c.self.inside.used c.self.inside.left
    (c.self.inside.used - c.remove-cells.result)
    (left_read c.self.inside c.self.view_is c.self.invariant.3) (omega arith))
    (older_removed f.located.index _ f.located.area f.located.held f.object taken
    (c.generation-generation.ensures.value ∙ (object_of c.args.at f).generation) c.size.ensures c.take.ensures
    c.self.invariant.4)

pub returns : goal.returns
returns c =
    let heap = opened c.self.inside c.self.view_is c.self.invariant in
    let f = found_read heap c.args.at c.requires c.index_of.ensures c.index_mut.ensures.value in
    let taken = rw c.offset_of.ensures at c.remove-cells.ensures.taken in
    subst (λ (x : Heap). IsRemoved c.args.self.now x c.args.at)
    (sym (object_removed heap c.args.at f c.remove-cells.ensures.area taken).view)
    (removed_cards heap c.args.at f c.remove-cells.ensures.area taken)
