use Rattle.hd_heap.proofs.RegionReads.{noted, opened}
use Rattle.hd_heap.proofs.heap.Heap.may_have_registered.Goals as goal

pub returns : goal.returns
returns c = record {
  none = (noted (opened c.self.inside c.self.view_is c.self.invariant)).flags.registrations;
}
