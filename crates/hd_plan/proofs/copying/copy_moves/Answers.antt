use Rattle.hd_plan.proofs.Basics.{arith}
use Rattle.hd_plan.proofs.CommitCopies.{copied_starts, have_gone, may_open, may_run}
use Rattle.hd_plan.proofs.copying.copy_moves.Goals as goal

pub loop-k-init : goal.loop-k-init
loop-k-init g c = record {
  copied = copied_starts (g.F.Forward.forwarding c.args.forward.now) c.args.heap.now c.args.moves.now;
  within = omega arith;
}

pub copy_from-k-requires-clause-may_go : goal.copy_from-k-requires-clause-may_go
copy_from-k-requires-clause-may_go g c = λ moves. (
  may_open c.requires.can_copy c.loop-k.invariant.copied moves c.requires.kept c.loop-k-test.true,
  may_run c.requires.can_copy c.loop-k.invariant.copied moves c.requires.kept c.loop-k-test.true,
)

pub loop-k-preserved : goal.loop-k-preserved
loop-k-preserved g c = record {
  copied = have_gone c.requires.can_copy c.loop-k-test.true c.loop-k.invariant.copied c.copy_from-k.ensures.on
      c.copy_from-k.ensures.gone;
  within = c.copy_from-k.ensures.within;
}
