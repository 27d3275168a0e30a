use Rattle.hd_ages.proofs.Basics.{arith}
use Rattle.hd_ages.proofs.BlockCount.{cut_on, none_on}
use Rattle.hd_ages.proofs.age_map.cut_from.Goals as goal

pub loop-block-preserved : goal.loop-block-preserved
loop-block-preserved c =
    let before = c.loop-block.invariant in
    let found = c.in-Some.ensures.found in
    record {
      low = omega (arith, before.low, found.low);
      high = omega (arith, c.requires.few c.in-Some.block (before.kept.fewer c.in-Some.block found.member));
      kept = cut_on c.in-Some.block before.kept c.remove.ensures (omega (arith, before.low, found.low));
      none = none_on c.in-Some.block before.kept c.remove.ensures (omega (arith, before.low, found.low))
          c.loop-block.from before.none found;
    }
