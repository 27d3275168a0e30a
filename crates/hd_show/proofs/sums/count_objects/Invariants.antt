use Rattle.std.proofs.Common.{take, ℕ, ◌≡◌}
use Rattle.std.specs.Prelude.{count_by}
use Rattle.hd_show.specs.Inside.{seen_in}
use Rattle.hd_show.specs.Inside.{tally_at}
use Rattle.hd_show.proofs.sums.count_objects.Given as goal

abbrev pub invariant-loop-object : goal.invariant-loop-object
invariant-loop-object l =
    (k : ℕ) → tally_at l.tally k ≡ count_by (seen_in k) (take l.object-index l.objects)
