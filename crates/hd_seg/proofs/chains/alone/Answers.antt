use Rattle.hd_seg.proofs.Basics.{arith}
use Rattle.hd_seg.proofs.ChainRings.{alone_all, alone_more, alone_none}
use Rattle.hd_seg.proofs.chains.alone.Goals as goal

pub loop-kind-init : goal.loop-kind-init
loop-kind-init c = alone_none c.args.room c.in_ok-links.links.items c.in_ok-links.ensures

pub loop-kind-preserved : goal.loop-kind-preserved
loop-kind-preserved c = alone_more c.loop-kind.invariant (omega (arith, c.loop-kind-test.true))

pub returns : goal.returns
returns c = alone_all c.loop-kind.invariant (omega (arith, c.loop-kind-test.false))
