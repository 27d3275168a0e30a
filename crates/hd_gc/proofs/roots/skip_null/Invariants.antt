use Rattle.hd_gc.proofs.Basics.{AreNull, length, ◌-◌, ◌≤◌}
use Rattle.hd_gc.proofs.roots.skip_null.Given as goal

abbrev pub invariant-loop-at : goal.invariant-loop-at
invariant-loop-at l = record {
  on : l.from ≤ l.at;
  within : l.at ≤ length l.roots;
  null : AreNull l.roots l.from l.at;
}

abbrev pub decreases-loop-at : goal.decreases-loop-at
decreases-loop-at l = length l.roots - l.at
