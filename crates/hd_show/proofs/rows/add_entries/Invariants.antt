use Rattle.std.proofs.Common.{take, ℕ, ◌+◌, ◌≡◌}
use Rattle.std.specs.Prelude.{count_by}
use Rattle.hd_show.specs.Blocks.{entry_at}
use Rattle.hd_show.specs.Inside.{tally_at}
use Rattle.hd_show.proofs.rows.add_entries.Given as goal

abbrev pub invariant-loop-entry : goal.invariant-loop-entry
invariant-loop-entry l =
    (k : ℕ) → tally_at l.tally k
    ≡ tally_at l.fn.tally k + count_by (entry_at k) (take l.entry-index l.entries)
