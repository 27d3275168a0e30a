use Rattle.std.proofs.Common.{arith, get_or, refl, sym, ◌+◌}
use Rattle.std.proofs.lemmas.List.{append-nil}
use Rattle.hd_graph.specs.Graph.{queue_text}
use Rattle.hd_graph.proofs.TextRows.{row_next, rows_all}
use Rattle.hd_graph.proofs.rows.push_queue.Goals as goal

pub loop-i-init : goal.loop-i-init
loop-i-init c = sym (append-nil c.args.text.now.items)

pub loop-i-preserved : goal.loop-i-preserved
loop-i-preserved c =
    row_next queue_text 1 c.args.queue.now c.loop-i.i (record { 0 = 0 }) c.loop-i-test.true
    c.args.text.now.items
    c.loop-i.text.items c.push_root.new.text.items (c.loop-i.i + 1) (get_or c.args.queue.now c.loop-i.i
    (record { 0 = 0 })) (omega arith) refl c.loop-i.invariant
    c.in_ok-push_root.ensures

pub returns : goal.returns
returns c =
    rows_all queue_text 1 c.args.queue.now c.loop-i.i c.loop-i-test.false c.args.text.now.items
    c.loop-i.text.items c.loop-i.invariant
