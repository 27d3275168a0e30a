use Rattle.hd_graph.proofs.Pieces.{last_piece, more}
use Rattle.hd_graph.proofs.dot.push_slot_label.Goals as goal

pub returns : goal.returns
returns c =
    let old = c.args.text.now.items in
    last_piece c.push-4.result old _ _ _ _
    (more old _ _ _ _
    (more old _ _ _ _ (more old _ _ _ _ c.in_ok-push.ensures c.in_ok-push_small.ensures)
    c.in_ok-push-2.ensures)
    c.in_ok-push-3.ensures) c.push-4.ensures
