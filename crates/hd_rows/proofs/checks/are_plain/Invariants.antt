use Rattle.std.proofs.Common.{◌≡◌, ◌<◌, ℕ, Some}
use Rattle.hd_model.specs.declared.data.Addr.{Addr}
use Rattle.hd_model.specs.State.{Handle}
use Rattle.hd_model.specs.Table.{row_at}
use Rattle.hd_rows.specs.Inside.{IsPlain}
use Rattle.hd_rows.proofs.checks.are_plain.Given as goal

abbrev pub invariant-loop-slot : goal.invariant-loop-slot
invariant-loop-slot l =
    (k : ℕ) (row : Handle Addr) → k < l.slot → row_at l.seg k ≡ Some row → IsPlain l.heap l.ages k row
