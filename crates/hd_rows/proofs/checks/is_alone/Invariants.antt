use Rattle.std.proofs.Common.{◌≡◌, ◌<◌, ◌≤◌, true, Some}
use Rattle.hd_model.specs.declared.data.Addr.{Addr}
use Rattle.hd_model.specs.Heap.{has_object, id_at}
use Rattle.hd_gc.proofs.CardWalk.{left_to}
use Rattle.hd_rows.proofs.checks.is_alone.Given as goal

abbrev pub invariant-loop-other : goal.invariant-loop-other
invariant-loop-other l =
    (y : Addr) → has_object l.heap y ≡ true → l.at.0 < y.0 → y.0 ≤ l.after.0
    → id_at l.heap l.at ≡ id_at l.heap y
    → ⊥

abbrev pub decreases-loop-other : goal.decreases-loop-other
decreases-loop-other l = left_to (Some l.after)
