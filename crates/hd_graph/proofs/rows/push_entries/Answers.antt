use Rattle.std.proofs.Common.{sym}
use Rattle.std.proofs.lemmas.List.{append-nil}
use Rattle.hd_graph.specs.Graph.{entry_text}
use Rattle.hd_graph.proofs.TextRows.{list_all}
use Rattle.hd_graph.proofs.rows.push_entries.Goals as goal

pub loop-entry-init : goal.loop-entry-init
loop-entry-init c = sym (append-nil c.args.text.now.items)

pub returns : goal.returns
returns c =
    list_all entry_text c.args.entries.now c.loop-entry.entry-index c.loop-entry-test.false
    c.args.text.now.items
    c.loop-entry.text.items c.loop-entry.invariant
