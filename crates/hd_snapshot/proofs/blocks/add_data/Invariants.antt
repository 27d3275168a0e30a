use Rattle.std.proofs.Common.{◌++◌, ◌≡◌}
use Rattle.std.specs.FinMap.{get}
use Rattle.std.specs.List.{filter_map}
use Rattle.hd_seg.specs.Mapped.{entries_of}
use Rattle.hd_seen.specs.Seen.{data_seen}
use Rattle.hd_snapshot.proofs.blocks.add_data.Given as goal

-- those of the numbers so far
abbrev pub invariant-loop-i : goal.invariant-loop-i
invariant-loop-i l =
    l.seen.items ≡ l.fn.seen.items ++ filter_map data_seen (entries_of 1 l.i (get l.table.uses))
