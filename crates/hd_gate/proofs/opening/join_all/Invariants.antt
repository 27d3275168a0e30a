use Rattle.hd_gate.proofs.Basics.{CallerView, HasEnded, length, slice_index_or, ℕ, ◌+◌, ◌<◌, ◌≡◌}
use Rattle.hd_gate.proofs.opening.join_all.Given as goal

abbrev pub invariant-loop-caller : goal.invariant-loop-caller
invariant-loop-caller l = record {
  table : l.seat.table ≡ l.initial.seat.table;
  seat : l.seat.view ≡ record l.initial.seat.view { room = l.seat.view.room; ended = l.seat.view.ended };
  count : length l.seat.view.ended + length l.list.items + 1 ≡ l.custody.numbers.callers;
  rest : (k : ℕ) (d : CallerView) → k < length l.list.items
      → slice_index_or l.list.items k d ≡ slice_index_or l.initial.list.items k d;
  ended : HasEnded l.initial.list.items l.seat.view.ended;
}

abbrev pub decreases-loop-caller : goal.decreases-loop-caller
decreases-loop-caller l = length l.list.items
