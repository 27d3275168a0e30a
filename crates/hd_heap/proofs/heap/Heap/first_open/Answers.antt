use Rattle.hd_heap.proofs.Basics.{arith, refl}
use Rattle.hd_heap.proofs.RegionReads.{opened, held_index}
use Rattle.hd_heap.proofs.heap.Heap.first_open.Goals as goal

pub loop-index-init : goal.loop-index-init
loop-index-init c = λ r held young low.
    let index = held_index (opened c.self.inside c.self.view_is c.self.invariant) held refl in
    absurd (omega (arith, index.0, low))

pub returns : goal.returns
returns c = λ r held young.
    let index = held_index (opened c.self.inside c.self.view_is c.self.invariant) held refl in
    c.loop-index.invariant r held young
    (omega (arith, index.0, index.1, c.loop-index-test.false, c.len-index-end.ensures))
