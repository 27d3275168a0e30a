use Rattle.std.proofs.Common.{take, ◌≡◌}
use Rattle.std.specs.Prelude.{filter}
use Rattle.hd_show.specs.{Heaps.is_in, Heaps.sums_of, Inside.regions_by}
use Rattle.hd_show.proofs.heaps.sums_in.Given as goal

abbrev pub invariant-loop-region : goal.invariant-loop-region
invariant-loop-region l =
    l.all ≡ sums_of (regions_by l.sums) (filter (is_in l.generation) (take l.region-index l.regions))
