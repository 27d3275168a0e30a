use Rattle.std.proofs.Common.{◌≡◌}
use Rattle.use_crates.proofs.custody.callers.churn.Given as goal

abbrev pub invariant-loop-round : goal.invariant-loop-round
invariant-loop-round l = record {
  table : l.seat.table ≡ l.fn.seat.table;
  held : l.seat.view.held ≡ l.fn.seat.view.held;
  gate : l.seat.view.has_gate ≡ l.fn.seat.view.has_gate;
  number : l.seat.view.number ≡ l.fn.seat.view.number;
}
