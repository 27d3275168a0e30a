use Rattle.std.proofs.Common.{drop, ◌++◌, ◌≡◌}
use Rattle.hd_plain.proofs.rooting.push_all.Given as goal

abbrev pub invariant-loop-id : goal.invariant-loop-id
invariant-loop-id l =
    l.targets.items ++ drop l.id-index l.list ≡ l.initial.targets.items ++ l.list
