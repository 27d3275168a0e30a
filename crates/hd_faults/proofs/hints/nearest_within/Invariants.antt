use Rattle.std.proofs.Common.{None, drop, map, option_map, ◌+◌, ◌≡◌}
use Rattle.hd_faults.specs.Hints.{nearer}
use Rattle.hd_faults.proofs.hints.nearest_within.Given as goal

-- the names that are left decide from the best so far
abbrev pub invariant-names : goal.invariant-names
invariant-names l =
    nearer l.word l.bound (option_map (λ name. name.now) l.best)
    (map (λ name. name.now) (drop l.name-index l.names))
    ≡ nearer l.word (l.most + 1) None (map (λ name. name.now) l.names)
