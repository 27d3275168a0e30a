use Rattle.std.proofs.Common.{take, ◌++◌, ◌≡◌}
use Rattle.std.specs.Prelude.{flat_map}
use Rattle.std.specs.List.{enumerate_from}
use Rattle.hd_graph.specs.Graph.{queue_text}
use Rattle.hd_graph.proofs.rows.push_queue.Given as goal

abbrev pub invariant-loop-i : goal.invariant-loop-i
invariant-loop-i l =
    l.text.items ≡ l.fn.text.items ++ flat_map queue_text (enumerate_from 1 (take l.i l.queue))
