use Rattle.std.proofs.Common.{Bool, ap, nat_eq, ℕ, ◌++◌, ◌∙◌, ◌≡◌}
use Rattle.std.specs.HashSet.{contains}
use Rattle.std.specs.Prelude.{codes, flat_map}
use Rattle.std.proofs.lemmas.Result.{IfOk-weaker}
use Rattle.hd_seen.specs.Seen.{view_seen}
use Rattle.hd_graph.specs.{Graph.entry_text, Graph.graph_head, Graph.graph_text, Graph.handle_text, Graph.labels_text, Graph.roots_text, Inside.tested_text}
use Rattle.hd_graph.specs.Kept.{AreKept}
use Rattle.hd_graph.proofs.GraphTexts.{objects_are}
use Rattle.hd_graph.proofs.Pieces.{six}
use Rattle.hd_walk.specs.Trail.{is_found}
use Rattle.hd_graph.proofs.push_graph.Goals as goal

pub returns : goal.returns
returns c =
    let s = c.args.seen.now in
    let old = c.args.text.now.items in
    let looks = c.in_ok-looks.looks in
    let kept = is_found looks.kept in
    let pinned = contains nat_eq looks.pinned in
    let labels = labels_text c.args.clusters s.regions.items in
    let objects = flat_map (tested_text c.args.clusters pinned kept) s.objects.items in
    let handles = flat_map handle_text s.handles.items in
    let entries = flat_map entry_text s.entries.items in
    let roots = roots_text (view_seen s) in
    IfOk-weaker c.push_looked.result
    (λ _. c.push_looked.new.text.items
    ≡ ((((((old ++ graph_head) ++ labels) ++ objects) ++ handles) ++ entries) ++ roots) ++ codes "}\n")
    (λ _. (k : ℕ → Bool) × AreKept s k
    × (c.push_looked.new.text.items ≡ old ++ graph_text c.args.clusters (view_seen s) k))
    (λ _ e. (
      kept,
      c.in_ok-looks.ensures.kept,
      e ∙ six old graph_head labels objects handles entries roots (codes "}\n")
          ∙ ap (λ o. old ++ ((((((graph_head ++ labels) ++ o) ++ handles) ++ entries) ++ roots) ++ codes
          "}\n"))
          (objects_are c.args.clusters (view_seen s) pinned kept c.in_ok-looks.ensures.pinned
          s.objects.items),
    )) c.push_looked.ensures
