use Rattle.std.proofs.Common.{drop, ◌≡◌}
use Rattle.hd_walk.specs.Trail.{before_of, with_all}
use Rattle.hd_walk.proofs.trail.Trail.add_all.Given as goal

abbrev pub invariant-loop-at : goal.invariant-loop-at
invariant-loop-at l =
    with_all l.self (drop l.at-index l.nodes) (before_of l.mark)
    ≡ with_all l.initial.self l.nodes (before_of l.mark)
