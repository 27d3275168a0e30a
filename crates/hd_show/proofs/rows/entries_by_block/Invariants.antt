use Rattle.std.proofs.Common.{take, ℕ, ◌≡◌}
use Rattle.std.specs.Prelude.{count_by}
use Rattle.hd_show.specs.Blocks.{entry_within}
use Rattle.hd_show.specs.Inside.{tally_at}
use Rattle.hd_show.proofs.rows.entries_by_block.Given as goal

abbrev pub invariant-loop-entry : goal.invariant-loop-entry
invariant-loop-entry l =
    (k : ℕ) → tally_at l.tally k ≡ count_by (entry_within k) (take l.entry-index l.entries)
