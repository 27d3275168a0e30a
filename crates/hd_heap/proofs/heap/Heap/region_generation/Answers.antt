use Rattle.hd_heap.proofs.Basics.{Region, ap, arith, sym}
use Rattle.hd_heap.proofs.RegionReads.{opened, held_index, held_read}
use Rattle.hd_heap.proofs.heap.Heap.region_generation.Goals as goal

pub index-requires : goal.index-requires
index-requires c =
    let i = held_index (opened c.self.inside c.self.view_is c.self.invariant) c.requires c.index_of.ensures in
    omega (arith, i.1)

pub returns : goal.returns
returns c =
    let t = held_read (opened c.self.inside c.self.view_is c.self.invariant) c.requires c.index_of.ensures
    c.index.ensures in
    sym (ap (λ (g : Region). g.generation) t.region)
