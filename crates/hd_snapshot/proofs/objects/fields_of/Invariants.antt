use Rattle.std.proofs.Common.{map, take, ◌≡◌}
use Rattle.std.specs.Option.{option_map}
use Rattle.hd_model.specs.Heap.{id_at, object_at}
use Rattle.hd_model.specs.Scene.{fields_at}
use Rattle.hd_snapshot.proofs.objects.fields_of.Given as goal

-- the fields so far
abbrev pub invariant-loop-i : goal.invariant-loop-i
invariant-loop-i l =
    l.fields.items ≡ map (option_map (id_at l.heap)) (take l.i (fields_at (object_at l.heap) l.at))
