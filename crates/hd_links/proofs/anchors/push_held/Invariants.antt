use Rattle.std.proofs.Common.{take, ◌++◌, ◌≡◌}
use Rattle.std.specs.Prelude.{flat_map}
use Rattle.hd_links.specs.Graph.{held_numbers}
use Rattle.hd_links.proofs.anchors.push_held.Given as goal

abbrev pub invariant-loop-link : goal.invariant-loop-link
invariant-loop-link l = l.numbers.items ≡ l.fn.numbers.items ++ flat_map held_numbers (take l.link-index l.links)
