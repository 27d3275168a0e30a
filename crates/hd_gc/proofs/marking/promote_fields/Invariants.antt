use Rattle.hd_gc.proofs.Basics.{Contains, Promotes, Some, fields_at, object_at, take}
use Rattle.hd_gc.proofs.marking.promote_fields.Given as goal

abbrev pub invariant-loop-i : goal.invariant-loop-i
invariant-loop-i l =
    Promotes (λ y. Contains (take l.i (fields_at (object_at l.heap) l.at)) (Some y)) l.fn.marks l.marks
