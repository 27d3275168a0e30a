-- What a turn does: what the world under the gate is after it, and what its seat is.
use Rattle.std.specs.Prelude.{ℕ}
use Rattle.hd_custody.specs.{declared.view.View.View}
use Rattle.hd_custody.specs.Views.{Known, numbers_of}
use Rattle.hd_gate.specs.Shared.{SearchView, CallerView}

-- the last search of a seat
abbrev pub search_of : {W : Type 0} → View W → SearchView
search_of v = record {
  trace = v.trace;
  trace_number = v.trace_number;
  began_empty = v.began_empty;
  began_with_gate = v.began_with_gate;
}

-- a seat, as what its caller is to others
abbrev pub caller_view_of : {W : Type 0} → Known W → ℕ → ℕ → CallerView
caller_view_of seat number room = record {
  table = seat.table;
  numbers = numbers_of seat.view.limits;
  number = number;
  part = seat.view.part;
  room = room;
  seen = seat.view.seen;
  gate_steps = seat.view.gate_steps;
  search = search_of seat.view;
}
