use Rattle.hd_heap.proofs.{RegionReads.opened, RegionReads.used_is, HeapSoundness.sound}
use Rattle.hd_heap.proofs.heap.Heap.used.Goals as goal

pub returns : goal.returns
returns c =
    let heap = opened c.self.inside c.self.view_is c.self.invariant in
    record { value = used_is heap; sound = sound heap }
