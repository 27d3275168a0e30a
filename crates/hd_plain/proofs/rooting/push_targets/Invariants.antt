use Rattle.std.proofs.Common.{drop, ◌++◌, ◌≡◌}
use Rattle.std.specs.Prelude.{flat_map}
use Rattle.hd_plain.specs.Inside.{nodes_in}
use Rattle.hd_plain.proofs.rooting.push_targets.Given as goal

abbrev pub invariant-loop-field : goal.invariant-loop-field
invariant-loop-field l =
    l.targets.items ++ flat_map nodes_in (drop l.field-index l.fields)
    ≡ l.initial.targets.items ++ flat_map nodes_in l.fields
