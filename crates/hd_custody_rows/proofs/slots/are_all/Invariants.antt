use Rattle.std.proofs.Common.{◌≡◌}
use Rattle.hd_custody_rows.proofs.slots.are_all.Given as goal

abbrev pub invariant-loop-run : goal.invariant-loop-run
invariant-loop-run l = l.seat.table ≡ l.fn.seat.table
