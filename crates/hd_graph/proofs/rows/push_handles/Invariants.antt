use Rattle.std.proofs.Common.{take, ◌++◌, ◌≡◌}
use Rattle.std.specs.Prelude.{flat_map}
use Rattle.hd_graph.specs.Graph.{handle_text}
use Rattle.hd_graph.proofs.rows.push_handles.Given as goal

abbrev pub invariant-loop-handle : goal.invariant-loop-handle
invariant-loop-handle l = l.text.items ≡ l.fn.text.items ++ flat_map handle_text (take l.handle-index
    l.handles)
