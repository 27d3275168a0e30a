use Rattle.std.proofs.Common.{arith, refl, sym}
use Rattle.std.proofs.lemmas.List.{append-nil}
use Rattle.hd_graph.specs.Graph.{registers_text}
use Rattle.hd_graph.proofs.TextRows.{row_next, rows_all}
use Rattle.hd_graph.proofs.rows.push_registers.Goals as goal

pub loop-i-init : goal.loop-i-init
loop-i-init c = sym (append-nil c.args.text.now.items)

pub loop-i-preserved : goal.loop-i-preserved
loop-i-preserved c =
    row_next registers_text 0 c.args.registers.now c.loop-i.i _ c.loop-i-test.true c.args.text.now.items
    c.loop-i.text.items c.push_row.new.text.items c.loop-i.i _ (omega arith) refl c.loop-i.invariant
    c.in_ok-push_row.ensures

pub returns : goal.returns
returns c =
    rows_all registers_text 0 c.args.registers.now c.loop-i.i c.loop-i-test.false c.args.text.now.items
    c.loop-i.text.items c.loop-i.invariant
