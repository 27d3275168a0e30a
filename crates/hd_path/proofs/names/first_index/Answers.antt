use Rattle.std.proofs.Common.{sym}
use Rattle.hd_path.proofs.LeastLinks.{none_more}
use Rattle.hd_path.proofs.names.first_index.Goals as goal

pub loop-i-preserved : goal.loop-i-preserved
loop-i-preserved c = record {
  none = none_more c.args.targets.now c.args.id c.loop-i.i c.loop-i.invariant.none (sym c.if-is.ensures);
}
