use Rattle.hd_seg.proofs.Basics.{arith, refl}
use Rattle.hd_seg.proofs.MoreBlocks.{added_on}
use Rattle.hd_seg.proofs.unused.add_numbers.Goals as goal

pub loop-before-preserved : goal.loop-before-preserved
loop-before-preserved c =
    added_on c.loop-before.invariant (omega (arith, c.loop-before.auto.before)) refl _ (omega arith)
    c.insert.ensures
