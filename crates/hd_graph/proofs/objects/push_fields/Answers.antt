use Rattle.std.proofs.Common.{None, arith, get_or, refl, sym}
use Rattle.std.proofs.lemmas.List.{append-nil}
use Rattle.hd_graph.specs.Graph.{field_edge}
use Rattle.hd_graph.proofs.TextRows.{row_next, rows_all}
use Rattle.hd_graph.proofs.objects.push_fields.Goals as goal

pub loop-i-init : goal.loop-i-init
loop-i-init c = sym (append-nil c.args.text.now.items)

pub loop-i-preserved : goal.loop-i-preserved
loop-i-preserved c =
    row_next (field_edge c.args.from) 0 c.args.fields.now c.loop-i.i None c.loop-i-test.true
    c.args.text.now.items
    c.loop-i.text.items c.push_edge_to.new.text.items c.loop-i.i (get_or c.args.fields.now c.loop-i.i None)
    (omega arith) refl c.loop-i.invariant
    c.in_ok-push_edge_to.ensures

pub returns : goal.returns
returns c =
    rows_all (field_edge c.args.from) 0 c.args.fields.now c.loop-i.i c.loop-i-test.false c.args.text.now.items
    c.loop-i.text.items c.loop-i.invariant
