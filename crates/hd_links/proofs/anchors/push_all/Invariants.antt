use Rattle.std.proofs.Common.{take, ◌++◌, ◌≡◌}
use Rattle.std.specs.Prelude.{flat_map}
use Rattle.hd_links.specs.Graph.{numbers_of}
use Rattle.hd_links.proofs.anchors.push_all.Given as goal

abbrev pub invariant-loop-reference : goal.invariant-loop-reference
invariant-loop-reference l = l.numbers.items ≡ l.fn.numbers.items ++ flat_map numbers_of (take l.reference-index l.references)
