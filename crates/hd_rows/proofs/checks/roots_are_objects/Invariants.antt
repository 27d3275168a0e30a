use Rattle.std.proofs.Common.{◌≡◌, ◌<◌, ℕ, true, Some, None}
use Rattle.std.specs.Prelude.{slice_index_or}
use Rattle.hd_model.specs.declared.data.Addr.{Addr}
use Rattle.hd_model.specs.Heap.{has_object}
use Rattle.hd_rows.proofs.checks.roots_are_objects.Given as goal

abbrev pub invariant-loop-root : goal.invariant-loop-root
invariant-loop-root l =
    (k : ℕ) (x : Addr) → k < l.root-index → slice_index_or l.roots k None ≡ Some x
    → has_object l.heap x ≡ true
