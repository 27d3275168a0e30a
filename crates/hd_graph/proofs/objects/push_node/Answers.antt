use Rattle.hd_graph.proofs.Pieces.{last_piece, more}
use Rattle.hd_graph.proofs.objects.push_node.Goals as goal

pub returns : goal.returns
returns c =
    let old = c.args.text.now.items in
    last_piece c.push-3.result old _ _ _ _
    (more old _ _ _ _
    (more old _ _ _ _
    (more old _ _ _ _ (more old _ _ _ _ c.in_ok-push_name.ensures c.in_ok-push.ensures)
    c.in_ok-push_label.ensures)
    c.in_ok-push-2.ensures) c.in_ok-push_if.ensures) c.push-3.ensures
