use Rattle.std.proofs.Common.{map, ◌≡◌}
use Rattle.std.specs.FinMap.{get}
use Rattle.hd_seg.specs.Mapped.{entries_of}
use Rattle.hd_seen.specs.Seen.{region_seen}
use Rattle.hd_snapshot.proofs.regions.regions_of.Given as goal

-- those of the numbers so far
abbrev pub invariant-loop-number : goal.invariant-loop-number
invariant-loop-number l = l.seen.items ≡ map (region_seen l.heap) (entries_of 0 l.number (get l.heap.regions))
