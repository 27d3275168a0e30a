use Rattle.std.proofs.Common.{◌≡◌, ◌<◌, ℕ, Some, None}
use Rattle.std.specs.Prelude.{slice_index_or}
use Rattle.hd_model.specs.Heap.{object_at}
use Rattle.hd_model.specs.Scene.{fields_at}
use Rattle.hd_rows.proofs.checks.names_nothing.Given as goal

abbrev pub invariant-loop-i : goal.invariant-loop-i
invariant-loop-i l = (k : ℕ) → k < l.i → slice_index_or (fields_at (object_at l.heap) l.at) k None ≡ None
