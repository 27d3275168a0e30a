use Rattle.std.proofs.Common.{sym}
use Rattle.std.proofs.lemmas.List.{append-nil}
use Rattle.hd_graph.specs.Graph.{handle_text}
use Rattle.hd_graph.proofs.TextRows.{list_all}
use Rattle.hd_graph.proofs.rows.push_handles.Goals as goal

pub loop-handle-init : goal.loop-handle-init
loop-handle-init c = sym (append-nil c.args.text.now.items)

pub returns : goal.returns
returns c =
    list_all handle_text c.args.handles.now c.loop-handle.handle-index c.loop-handle-test.false
    c.args.text.now.items
    c.loop-handle.text.items c.loop-handle.invariant
