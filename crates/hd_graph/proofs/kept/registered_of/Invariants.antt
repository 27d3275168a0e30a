use Rattle.std.proofs.Common.{take, ◌≡◌}
use Rattle.std.specs.Prelude.{flat_map}
use Rattle.hd_graph.specs.Inside.{registered_number}
use Rattle.hd_graph.proofs.kept.registered_of.Given as goal

abbrev pub invariant-loop-object : goal.invariant-loop-object
invariant-loop-object l = l.numbers.items ≡ flat_map registered_number (take l.object-index l.objects)
