use Rattle.std.proofs.Common.{◌≡◌}
use Rattle.hd_custody_rows.proofs.slots.are_next.Given as goal

abbrev pub invariant-loop-i : goal.invariant-loop-i
invariant-loop-i l = l.seat.table ≡ l.fn.seat.table
