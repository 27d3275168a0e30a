use Rattle.std.proofs.Common.{List, None, ap, arith, subst, ℕ, ◌++◌, ◌∙◌}
use Rattle.std.specs.Prelude.{flat_map}
use Rattle.hd_links.specs.Graph.{IsNode, anchors_in, in_order, leads_in}
use Rattle.hd_links.specs.declared.links.Link.{Link}
use Rattle.hd_graph.specs.{Inside.registered_number, Kept.row_numbers}
use Rattle.hd_graph.proofs.KeptMarks.{added_longer, are_kept}
use Rattle.hd_seen.specs.declared.SeenObject.{SeenObject}
use Rattle.hd_walk.specs.Trail.{with_all}
use Rattle.hd_walk.specs.Walk.{HasEnded}
use Rattle.hd_graph.proofs.kept.kept_of.Goals as goal

pub walk-requires-clause-nodes : goal.walk-requires-clause-nodes
walk-requires-clause-nodes c = λ i x at. c.in_ok-graph.ensures.attaching.rising

pub walk-requires-2-clause-nodes : goal.walk-requires-2-clause-nodes
walk-requires-2-clause-nodes c = λ i x at. c.in_ok-graph.ensures.attaching.rising

pub walk-requires-2-clause-next : goal.walk-requires-2-clause-next
walk-requires-2-clause-next c =
    let longer = added_longer c.deref-4.result.now c.walk.new.trail c.add_all-2.new.self
    c.in_ok-add_all-2.ensures in
    omega (arith, c.len-reached.ensures.value, longer)

pub returns : goal.returns
returns c =
    let g = c.in_ok-graph.graph in
    let s = c.args.seen.now in
    are_kept s g c.in_ok-graph.ensures c.requires c.in_ok-roots.roots.items
    c.in_ok-registered.registered.items c.add_all.new.self c.walk.new.trail c.add_all-2.new.self
    c.walk-2.new.trail c.in_ok-_reached._reached c.in_ok-_kept._kept
    (c.in_ok-roots.ensures
    ∙ ap (λ (ls : List Link). anchors_in s.statics s.queue.items ls ++ flat_map row_numbers s.registers.items)
    (c.deref.ensures.value ∙ c.in_ok-graph.ensures.links))
    (c.in_ok-registered.ensures
    ∙ ap (λ (l : List SeenObject). flat_map registered_number l) c.deref-2.ensures.value)
    (c.in_ok-add_all.ensures
    ∙ (λ i. with_all ((c.reserve.ensures ∙ c.open-trail.ensures) i) (c.deref-3.ensures.value i) None))
    c.in_ok-_reached.ensures
    (c.in_ok-add_all-2.ensures
    ∙ ap (λ (l : List ℕ). with_all c.walk.new.trail l None) c.deref-4.ensures.value)
    (subst
    (λ n. HasEnded (IsNode g) (leads_in g) in_order None c.add_all-2.new.self n c.walk-2.new.trail
    c.in_ok-_kept._kept) c.len-reached.ensures.value c.in_ok-_kept.ensures)
