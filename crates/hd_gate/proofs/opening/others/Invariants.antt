use Rattle.hd_gate.proofs.Basics.{AreNew, IsFirst, drop, length, slice_index, sum, vec_capacity, ◌+◌, ◌≡◌, ◌≤◌}
use Rattle.hd_gate.proofs.opening.others.Given as goal

abbrev pub invariant-loop-number : goal.invariant-loop-number
invariant-loop-number l = record {
  table : l.first.table ≡ l.initial.first.table;
  first : IsFirst l.initial.first.view l.first.view l.number
      (sum (drop l.number l.rooms) + slice_index l.rooms 0);
  count : length l.list.items + 1 ≡ l.number;
  spare : length l.rooms ≤ vec_capacity l.list;
  others : AreNew l.custody l.rooms l.list.items;
}
