use Rattle.hd_seg.specs.Inside.{HasAdded}
use Rattle.hd_seg.proofs.unused.add_numbers.Given as goal

abbrev pub invariant-loop-before : goal.invariant-loop-before
invariant-loop-before l = HasAdded l.from l.before l.fn.numbers l.numbers
