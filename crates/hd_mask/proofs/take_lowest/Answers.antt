-- Each round takes the lowest bit that is left; after the last one the parts are as `Left` says.
use Rattle.hd_mask.proofs.Basics.{arith, ones_le_self, ◌<◌}
use Rattle.hd_mask.proofs.LowestBits.{one_more_taken, taken_parts}
use Rattle.hd_mask.proofs.take_lowest.Goals as goal

pub loop-taken-preserved : goal.loop-taken-preserved
loop-taken-preserved c =
    let some : 0 < c.loop-taken.left = omega (arith, ones_le_self c.loop-taken.left) in
    one_more_taken c.args.mask c.loop-taken.left _ some (omega arith) c.loop-taken.invariant

pub returns : goal.returns
returns c =
    let parts = taken_parts c.args.mask c.loop-taken.left _ c.args.n c.loop-taken.invariant (omega arith)
    (omega arith) (omega arith) in
    record {
      lowest = parts.list.0;
      rest = parts.list.1;
      parts = parts.at;
      together = parts.together;
      apart = parts.apart;
      below = parts.below;
      taken = parts.number;
      left = omega (arith, c.loop-taken.invariant.number);
    }
