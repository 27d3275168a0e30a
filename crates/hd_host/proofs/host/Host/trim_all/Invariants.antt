use Rattle.hd_host.proofs.TrimRows.{GoesOn}
use Rattle.hd_host.proofs.host.Host.trim_all.Given as goal

abbrev pub invariant-loop-kind : goal.invariant-loop-kind
invariant-loop-kind l = GoesOn l.fn.self l.self l.kind-index
