use Rattle.std.proofs.Common.{take, ◌++◌, ◌≡◌}
use Rattle.std.specs.Prelude.{flat_map}
use Rattle.hd_links.specs.Inside.{attached_to}
use Rattle.hd_links.proofs.graph.push_attached.Given as goal

abbrev pub invariant-loop-link : goal.invariant-loop-link
invariant-loop-link l = l.targets.items ≡ l.fn.targets.items ++ flat_map (attached_to l.to) (take l.link-index l.links)
