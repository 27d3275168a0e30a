use Rattle.hd_gc.proofs.Basics.{length, ◌≡◌}
use Rattle.hd_gc.specs.Inside.{MovesOn}
use Rattle.hd_gc.proofs.moving.relocate_between.Given as goal

abbrev pub invariant-loop-i : goal.invariant-loop-i
invariant-loop-i l = record {
  long : length l.roots ≡ length l.fn.roots;
  goes : MovesOn l.plan l.from l.i l.fn.roots l.roots;
}
