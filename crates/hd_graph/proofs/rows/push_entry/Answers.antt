use Rattle.std.proofs.Common.{ap, ◌++◌, ◌∙◌}
use Rattle.hd_graph.specs.Graph.{slot_text}
use Rattle.hd_graph.proofs.Pieces.{last_piece, more}
use Rattle.hd_graph.proofs.rows.push_entry.Goals as goal

pub returns : goal.returns
returns c =
    let e = c.args.entry.now in
    let old = c.args.text.now.items in
    last_piece c.push_attached.result old _ _ _ _
    (more old _ _ _ _
    (c.in_ok-push_slot.ensures ∙ ap (λ w. old ++ slot_text e.slot w) c.entry_word.ensures)
    c.in_ok-push_edge_to.ensures) c.push_attached.ensures
