use Rattle.std.proofs.Common.{◌≡◌, false}
use Rattle.hd_pairs.proofs.add_all.Given as goal

abbrev pub invariant-loop-block : goal.invariant-loop-block
invariant-loop-block g l = record {
  table : l.seat.table ≡ l.fn.seat.table;
  gate : l.seat.view.has_gate ≡ false;
  number : l.seat.view.number ≡ l.fn.seat.view.number;
}
