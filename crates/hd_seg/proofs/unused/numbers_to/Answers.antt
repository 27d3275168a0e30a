use Rattle.hd_seg.proofs.Basics.{HasNumbers, arith, subst}
use Rattle.hd_seg.proofs.UnusedBlocks.{numbers_more, numbers_none}
use Rattle.hd_seg.proofs.unused.numbers_to.Goals as goal

pub loop-before-init : goal.loop-before-init
loop-before-init c = numbers_none c.args.last _ c.in_ok-numbers.ensures

pub insert-requires : goal.insert-requires
insert-requires c = omega (arith, c.loop-before.invariant.room)

pub loop-before-preserved : goal.loop-before-preserved
loop-before-preserved c = numbers_more c.loop-before.invariant _ (omega arith) c.insert.ensures

pub returns : goal.returns
returns c =
    subst (λ n. HasNumbers c.args.last n c.loop-before.numbers) (omega arith) c.loop-before.invariant
