use Rattle.hd_heap.proofs.Basics.{arith, refl}
use Rattle.hd_heap.proofs.{GenerationSums.older_moved, GenerationSums.shares_small, RegionReads.closed_none, RegionReads.opened, RegionReads.held_index, RegionReads.held_read, RegionChanges.generation_changed}
use Rattle.hd_heap.proofs.heap.Heap.set_generation.Goals as goal

pub index_mut-area-requires : goal.index_mut-area-requires
index_mut-area-requires c =
    let i = held_index (opened c.self.inside c.self.view_is c.self.invariant) c.requires.held
    c.index_of.ensures in
    omega (arith, i.1)

pub invariant_of-self : goal.invariant_of-self
invariant_of-self c =
    let heap = opened c.self.inside c.self.view_is c.self.invariant in
    let at = held_read heap c.requires.held c.index_of.ensures c.index_mut-area.ensures.value in
    let is = generation_changed heap c.args.generation at c.requires.generation
    c.still_current-self-inside.ensures in
    closed_none is (older_moved at.index c.args.generation (shares_small is) at.held refl c.size-of.ensures c.take.ensures
    c.add.ensures c.self.invariant.4)

pub returns : goal.returns
returns c =
    let heap = opened c.self.inside c.self.view_is c.self.invariant in
    (generation_changed heap c.args.generation
    (held_read heap c.requires.held c.index_of.ensures c.index_mut-area.ensures.value) c.requires.generation
    c.still_current-self-inside.ensures).view
