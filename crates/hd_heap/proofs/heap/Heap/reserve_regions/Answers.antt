use Rattle.hd_heap.proofs.Basics.{arith}
use Rattle.hd_heap.proofs.RegionReserve.{same_length, one_longer}
use Rattle.hd_heap.proofs.heap.Heap.reserve_regions.Goals as goal

pub loop-self-init : goal.loop-self-init
loop-self-init c = same_length c.args.self.now c.args.count

pub loop-self-preserved : goal.loop-self-preserved
loop-self-preserved c =
    let added = c.in_ok-add_free_region.ensures.ok in
    one_longer c.args.self.now c.loop-self.self c.add_free_region.new.self c.args.count added.0
    c.loop-self.invariant (omega (arith, c.loop-self-test.true, c.free_len.ensures)) added.1
