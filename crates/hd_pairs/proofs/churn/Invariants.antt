use Rattle.std.proofs.Common.{◌≡◌}
use Rattle.hd_pairs.proofs.churn.Given as goal

abbrev pub invariant-loop-round : goal.invariant-loop-round
invariant-loop-round l = record { table : l.seat.table ≡ l.fn.seat.table }
