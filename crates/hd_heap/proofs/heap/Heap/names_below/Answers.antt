use Rattle.hd_heap.proofs.Basics.{arith}
use Rattle.hd_heap.proofs.HeapReferences.{field_read, below_field}
use Rattle.hd_heap.proofs.heap.Heap.names_below.Goals as goal

pub is_below-requires : goal.is_below-requires
is_below-requires c = field_read c.args.self.now c.args.at c.loop-i.i c.load.result
    (omega (arith, c.fields-i-end.ensures.count, c.loop-i-test.true)) c.load.ensures c.requires.fields

pub returns : goal.returns
returns c = (
  λ never. absurd (cc never),
  λ named. absurd (below_field c.args.self.now c.args.at c.args.n c.loop-i.i
      (omega (arith, c.fields-i-end.ensures.count, c.loop-i-test.false)) c.loop-i.invariant named),
)
