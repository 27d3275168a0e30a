use Rattle.std.proofs.Common.{◌≡◌}
use Rattle.hd_turns.specs.Views.{missed}
use Rattle.hd_turns.proofs.gate.Gate.try_enter.Given as goal

abbrev pub invariant-loop-look : goal.invariant-loop-look
invariant-loop-look g l = l.seat ≡ record l.initial.seat { view = missed l.look l.initial.seat.view }
