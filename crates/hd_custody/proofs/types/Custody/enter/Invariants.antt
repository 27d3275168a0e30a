use Rattle.hd_custody.proofs.Basics.{◌≡◌}
use Rattle.hd_custody.proofs.types.Custody.enter.Given as goal

abbrev pub invariant-loop-try : goal.invariant-loop-try
invariant-loop-try g l = l.seat ≡ l.initial.seat
