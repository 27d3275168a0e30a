use Rattle.std.proofs.Common.{false, ◌≡◌}
use Rattle.hd_custody_rows.proofs.waking.take_turns.Given as goal

abbrev pub invariant-loop-turn : goal.invariant-loop-turn
invariant-loop-turn g l = record {
  table : l.seat.table ≡ l.fn.seat.table;
  gate : l.seat.view.has_gate ≡ false;
}
