use Rattle.hd_gc.proofs.Basics.{arith}
use Rattle.hd_gc.proofs.NullRoots.{null_on}
use Rattle.hd_gc.proofs.roots.skip_null.Goals as goal

pub loop-at-init : goal.loop-at-init
loop-at-init c = record {
  on = omega arith;
  within = c.requires;
  null = λ k low high. absurd (omega arith);
}

pub loop-at-preserved : goal.loop-at-preserved
loop-at-preserved c = record {
  on = omega (arith, c.loop-at.invariant.on);
  within = omega (arith, (c.four_null.ensures c.loop-at-test.true).0);
  null = null_on c.args.roots.now _ _ _ c.loop-at.invariant.null (c.four_null.ensures c.loop-at-test.true).1;
}
