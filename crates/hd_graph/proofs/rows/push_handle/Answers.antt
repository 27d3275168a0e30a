use Rattle.std.proofs.Common.{Option, ap, subst, ◌++◌, ◌∙◌, ◌≡◌}
use Rattle.std.specs.Prelude.{IfOk}
use Rattle.hd_model.specs.declared.data.Id.{Id}
use Rattle.hd_graph.specs.declared.dot.Node.TheVariants as node
use Rattle.hd_graph.specs.declared.dot.Reason.TheVariants as why
use Rattle.hd_graph.specs.Graph.{attached_edge, edge_to, slot_text}
use Rattle.hd_graph.proofs.Pieces.{last_piece, more}
use Rattle.hd_graph.proofs.rows.push_handle.Goals as goal

pub returns : goal.returns
returns c =
    let h = c.args.handle.now in
    let old = c.args.text.now.items in
    last_piece c.push_attached.result old _ _ _ _
    (more old _ _ _ _
    (c.in_ok-push_slot.ensures ∙ ap (λ w. old ++ slot_text h.slot w) c.kind_name.ensures.word)
    (c.in_ok-push_edge_to.ensures
    ∙ ap (λ s. c.push_slot.new.text.items ++ edge_to (node.Slot h.slot) (why.Target s) h.target)
    c.style.ensures))
    (subst (λ (o : Option Id). IfOk c.push_attached.result (λ _. c.push_attached.new.text.items
    ≡ c.push_edge_to.new.text.items ++ attached_edge (why.Dependent h.slot) h.target o)) c.secondary.ensures
    c.push_attached.ensures)
