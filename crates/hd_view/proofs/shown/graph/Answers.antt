use Rattle.std.proofs.Common.{ap, ◌++◌, ◌∙◌}
use Rattle.hd_graph.proofs.StateMarks.{grey_is_removed}
use Rattle.hd_graph.specs.Graph.{graph_text}
use Rattle.hd_links.proofs.SeenStates.{pictures_rise}
use Rattle.hd_seen.specs.Seen.{view_seen}
use Rattle.hd_view.proofs.shown.graph.Goals as goal

pub push_graph-requires : goal.push_graph-requires
push_graph-requires c =
    let w = c.args.world.now in
    pictures_rise c.in_ok-seen.seen w.numbers w.state w.ages w.heap w.table c.in_ok-seen.ensures.seen

pub returns : goal.returns
returns c =
    let w = c.args.world.now in
    let drawn = c.in_ok-push_graph.ensures in
    let sees = c.in_ok-seen.ensures.seen in
    record {
      kept = drawn.0;
      marks = (grey_is_removed c.in_ok-seen.seen w.numbers w.state w.ages w.heap w.table drawn.0 c.requires sees).0
          drawn.1;
      is_text = drawn.2
          ∙ ap (λ xs. xs ++ graph_text c.args.clusters (view_seen c.in_ok-seen.seen) drawn.0)
          c.new-text.ensures.items
          ∙ ap (λ p. graph_text c.args.clusters p drawn.0) sees;
      parted = c.in_ok-seen.ensures.parted;
    }
