use Rattle.std.proofs.Common.{List, None, Some, subst, ◌∙◌}
use Rattle.std.specs.Prelude.{IfOk}
use Rattle.hd_walk.specs.declared.trail.Found.{Found}
use Rattle.hd_walk.specs.Trail.{with_all}
use Rattle.hd_walk.specs.Walk.{HasEnded}
use Rattle.hd_plain.specs.Edges.{IsNode, in_any_order, leads_in}
use Rattle.hd_plain.proofs.RootWalk.{anchor_nodes, start_nodes}
use Rattle.hd_plain.proofs.rooting.walk_to.Goals as goal

pub walk-requires-clause-nodes : goal.walk-requires-clause-nodes
walk-requires-clause-nodes c =
    let j = c.args.graph.now.machine.now in
    let a = c.args.graph.now.attached.now in
    start_nodes j a c.args.anchors.now
    (anchor_nodes j a c.requires.formed c.requires.listed c.args.anchors.now c.requires.all) c.requires.rising
    (c.in_ok-add_all.ensures ∙ (λ i. with_all (c.requires.none i) c.args.anchors.now None))

pub returns : goal.returns
returns c =
    let j = c.args.graph.now.machine.now in
    let a = c.args.graph.now.attached.now in
    subst (λ (old : List Found). IfOk c.walk.result
    (HasEnded (IsNode j a) (leads_in j.state) in_any_order (Some c.args.goal.0) old 0 c.walk.new.trail))
    (c.in_ok-add_all.ensures ∙ (λ i. with_all (c.requires.none i) c.args.anchors.now None)) c.walk.ensures
