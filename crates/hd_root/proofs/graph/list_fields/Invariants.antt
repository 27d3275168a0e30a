use Rattle.std.proofs.Common.{◌≡◌, ◌++◌, take}
use Rattle.std.specs.Prelude.{flat_map}
use Rattle.hd_root.specs.Inside.{nodes_in}
use Rattle.hd_root.proofs.graph.list_fields.Given as goal

abbrev pub invariant-loop-i : goal.invariant-loop-i
invariant-loop-i l = l.targets.items ≡ l.fn.targets.items ++ flat_map nodes_in (take l.i l.fields)
