use Rattle.std.proofs.Common.{map, ◌≡◌}
use Rattle.std.specs.FinMap.{get}
use Rattle.hd_seg.specs.Mapped.{entries_of}
use Rattle.hd_seen.specs.Seen.{entry_seen}
use Rattle.hd_snapshot.proofs.rows.entries.Given as goal

-- those in the slots so far
abbrev pub invariant-loop-number : goal.invariant-loop-number
invariant-loop-number l =
    l.seen.items ≡ map (entry_seen l.store.ages) (entries_of 0 l.number (get l.store.state.weak))
