use Rattle.hd_run.proofs.Basics.{Entry, sum_by, take, value_returned, ◌≡◌}
use Rattle.hd_run.proofs.summary.sum.Given as goal

abbrev pub invariant-loop-i : goal.invariant-loop-i
invariant-loop-i l = l.sum ≡ sum_by (λ (e : Entry). value_returned e.reply) (take l.i l.journal.entries)
