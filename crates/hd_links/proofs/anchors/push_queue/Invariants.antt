use Rattle.std.proofs.Common.{take, ◌++◌, ◌≡◌}
use Rattle.std.specs.Prelude.{flat_map}
use Rattle.hd_links.specs.Graph.{queued_numbers}
use Rattle.hd_links.proofs.anchors.push_queue.Given as goal

abbrev pub invariant-loop-id : goal.invariant-loop-id
invariant-loop-id l = l.numbers.items ≡ l.fn.numbers.items ++ flat_map queued_numbers (take l.id-index l.queue)
