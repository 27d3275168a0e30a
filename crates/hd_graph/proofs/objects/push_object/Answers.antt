use Rattle.std.proofs.Common.{List, Option, subst, ◌++◌, ◌≡◌}
use Rattle.std.specs.Prelude.{IfOk, flat_map}
use Rattle.std.specs.List.{enumerate_from}
use Rattle.hd_model.specs.declared.data.Id.{Id}
use Rattle.hd_seen.specs.Seen.{object_shown}
use Rattle.hd_graph.specs.Graph.{cluster_begin, cluster_end, field_edge, object_node}
use Rattle.hd_graph.proofs.Pieces.{last_piece, more}
use Rattle.hd_graph.proofs.objects.push_object.Goals as goal

pub returns : goal.returns
returns c =
    let old = c.args.text.now.items in
    let o = object_shown c.args.object.now in
    subst (λ (fields : List (Option Id)). IfOk c.push_fields.result (λ _. c.push_fields.new.text.items
    ≡ old ++ (((cluster_begin c.args.clusters o ++ object_node c.args.pinned c.args.kept o)
    ++ cluster_end c.args.clusters)
    ++ flat_map (field_edge c.args.object.now.id) (enumerate_from 0 fields)))) c.deref.ensures.value
    (last_piece c.push_fields.result old _ _ _ _
    (more old _ _ _ _ (more old _ _ _ _ c.in_ok-push_cluster.ensures c.in_ok-push_node.ensures)
    c.in_ok-push_end.ensures) c.push_fields.ensures)
