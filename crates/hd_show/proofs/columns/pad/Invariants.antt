use Rattle.std.proofs.Common.{length, ◌++◌, ◌-◌, ◌≡◌, ◌≤◌}
use Rattle.std.specs.Prelude.{max, replicate}
use Rattle.hd_show.proofs.columns.pad.Given as goal

abbrev pub invariant-loop : goal.invariant-loop
invariant-loop l = record {
  blanks : l.line ≡ l.fn.line ++ replicate (l.counter - length l.fn.line) 32;
  long : length l.line ≡ l.counter;
  low : length l.fn.line ≤ l.counter;
  high : l.counter ≤ max l.column (length l.fn.line);
}
