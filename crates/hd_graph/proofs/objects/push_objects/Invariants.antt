use Rattle.std.proofs.Common.{nat_eq, take, ◌++◌, ◌≡◌}
use Rattle.std.specs.HashSet.{contains}
use Rattle.std.specs.Prelude.{flat_map}
use Rattle.hd_graph.specs.Inside.{tested_text}
use Rattle.hd_walk.specs.Trail.{is_found}
use Rattle.hd_graph.proofs.objects.push_objects.Given as goal

abbrev pub invariant-loop-object : goal.invariant-loop-object
invariant-loop-object l =
    l.text.items
    ≡ l.fn.text.items
    ++ flat_map (tested_text l.clusters (contains nat_eq l.pinned) (is_found l.kept))
    (take l.object-index l.objects)
