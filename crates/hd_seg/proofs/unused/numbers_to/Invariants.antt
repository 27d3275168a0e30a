use Rattle.hd_seg.proofs.Basics.{HasNumbers}
use Rattle.hd_seg.proofs.unused.numbers_to.Given as goal

abbrev pub invariant-loop-before : goal.invariant-loop-before
invariant-loop-before l = HasNumbers l.last l.before l.numbers
