use Rattle.std.proofs.Common.{◌≡◌}
use Rattle.hd_host.proofs.ShownLocals.{shown}
use Rattle.hd_host.proofs.host.Host.locals.Given as goal

-- the first of them are shown
abbrev pub invariant-loop-i : goal.invariant-loop-i
invariant-loop-i l = l.out ≡ shown l.self l.context l.initial.out l.i
