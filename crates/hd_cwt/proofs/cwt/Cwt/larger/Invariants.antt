use Rattle.hd_cwt.proofs.Copies.{IsCopied}
use Rattle.hd_cwt.proofs.cwt.Cwt.larger.Given as goal

abbrev pub invariant-loop-slot : goal.invariant-loop-slot
invariant-loop-slot l = IsCopied l.slot l.blocks l.buckets l.fn.self l.larger
