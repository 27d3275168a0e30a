use Rattle.std.proofs.Common.{◌++◌}
use Rattle.std.specs.Prelude.{codes, decimal}
use Rattle.hd_graph.proofs.Pieces.{last_piece}
use Rattle.hd_graph.proofs.dot.push_entry.Goals as goal

pub returns : goal.returns
returns c =
    last_piece c.push_slot_end.result c.args.text.now.items c.push.new.text.items
    c.push_slot_end.new.text.items
    (codes " [style=dotted ") (codes "label=\"entry " ++ decimal c.args.slot.0 ++ codes "\"]")
    c.in_ok-push.ensures
    c.push_slot_end.ensures
