use Rattle.hd_mark.proofs.Basics.{scanned, take, ◌≡◌}
use Rattle.hd_mark.proofs.marks.Marks.scan.Given as goal

abbrev pub invariant-loop-i : goal.invariant-loop-i
invariant-loop-i l = l.self ≡ scanned l.fn.self (take l.i l.fields)
