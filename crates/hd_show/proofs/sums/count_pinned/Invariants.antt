use Rattle.std.proofs.Common.{nat_eq, take, ℕ, ◌≡◌}
use Rattle.std.specs.Prelude.{count_by}
use Rattle.std.specs.HashSet.{contains}
use Rattle.hd_show.specs.Inside.{is_marked}
use Rattle.hd_show.specs.Inside.{tally_at}
use Rattle.hd_show.proofs.sums.count_pinned.Given as goal

abbrev pub invariant-loop-object : goal.invariant-loop-object
invariant-loop-object l =
    (k : ℕ) → tally_at l.tally k
    ≡ count_by (is_marked (contains nat_eq l.marks) k) (take l.object-index l.objects)
