use Rattle.std.proofs.Common.{◌≡◌, false, true}
use Rattle.hd_model.specs.declared.data.Addr.{Addr}
use Rattle.hd_model.specs.Heap.{has_object}
use Rattle.hd_heap.specs.Calls.{is_after}
use Rattle.hd_gc.proofs.CardWalk.{left_to}
use Rattle.hd_rows.specs.Inside.{IsAlone}
use Rattle.hd_rows.proofs.checks.are_alone.Given as goal

abbrev pub invariant-loop-at : goal.invariant-loop-at
invariant-loop-at l =
    (x : Addr) → has_object l.heap x ≡ true → is_after l.after x ≡ false → IsAlone l.heap x

abbrev pub decreases-loop-at : goal.decreases-loop-at
decreases-loop-at l = left_to l.after
