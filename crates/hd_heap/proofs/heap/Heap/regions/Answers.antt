use Rattle.hd_heap.proofs.{RegionReads.opened, HeapSoundness.sound}
use Rattle.hd_heap.proofs.heap.Heap.regions.Goals as goal

pub returns-clause-sound : goal.returns-clause-sound
returns-clause-sound c = sound (opened c.self.inside c.self.view_is c.self.invariant)
