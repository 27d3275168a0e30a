use Rattle.std.proofs.Common.{take, ℕ, ◌≡◌}
use Rattle.std.specs.Prelude.{count_by}
use Rattle.hd_show.specs.Blocks.{handle_at}
use Rattle.hd_show.specs.Inside.{tally_at}
use Rattle.hd_show.proofs.rows.handles_by_slot.Given as goal

abbrev pub invariant-loop-handle : goal.invariant-loop-handle
invariant-loop-handle l =
    (k : ℕ) → tally_at l.tally k ≡ count_by (handle_at k) (take l.handle-index l.handles)
