use Rattle.hd_script.proofs.Basics.{contents, length, sum_by, take, ◌≡◌}
use Rattle.hd_script.proofs.scripts.count.Given as goal

-- the commands of the lists so far are counted
abbrev pub invariant-loop-list : goal.invariant-loop-list
invariant-loop-list l = l.total ≡ sum_by length (take l.list-index (contents l.lists))
