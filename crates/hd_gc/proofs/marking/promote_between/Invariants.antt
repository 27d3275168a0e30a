use Rattle.hd_gc.proofs.Basics.{IsSettledMarks, ◌≡◌}
use Rattle.hd_gc.specs.Inside.{PromotesOn}
use Rattle.hd_gc.proofs.marking.promote_between.Given as goal

abbrev pub invariant-loop-i : goal.invariant-loop-i
invariant-loop-i l = record {
  settled : IsSettledMarks l.marks;
  basis : l.marks.basis ≡ l.fn.marks.basis;
  goes : PromotesOn l.roots l.from l.i l.fn.marks l.marks;
}
