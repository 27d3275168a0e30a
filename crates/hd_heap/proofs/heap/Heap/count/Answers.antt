use Rattle.hd_heap.proofs.{RegionReads.opened, RegionReads.count_is, HeapSoundness.sound}
use Rattle.hd_heap.proofs.heap.Heap.count.Goals as goal

pub returns : goal.returns
returns c =
    let heap = opened c.self.inside c.self.view_is c.self.invariant in
    record { value = count_is heap; sound = sound heap }
