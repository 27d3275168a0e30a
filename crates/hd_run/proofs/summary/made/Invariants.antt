use Rattle.hd_run.proofs.Basics.{count_entries, makes_object, take, ◌≡◌, ◌≤◌}
use Rattle.hd_run.proofs.summary.made.Given as goal

abbrev pub invariant-loop-i : goal.invariant-loop-i
invariant-loop-i l = record {
  counted : l.count ≡ count_entries makes_object (take l.i l.journal.entries);
  few : l.count ≤ l.i;
}
