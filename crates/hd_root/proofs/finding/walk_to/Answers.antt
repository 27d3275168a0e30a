use Rattle.std.proofs.Common.{Option, Some, subst, ℕ}
use Rattle.std.proofs.lemmas.Result.{IfOk-weaker}
use Rattle.hd_root.proofs.SearchEnd.{node_objects, object_nodes}
use Rattle.hd_root.specs.Inside.{WalksTo}
use Rattle.hd_root.specs.Search.{EdgeBy, IsNode, in_any_order}
use Rattle.hd_walk.specs.Walk.{HasEnded}
use Rattle.hd_walk.proofs.WalkTurns.{walked_nodes}
use Rattle.hd_root.proofs.finding.walk_to.Goals as goal

pub walk-requires-clause-nodes : goal.walk-requires-clause-nodes
walk-requires-clause-nodes c =
    object_nodes c.requires.fields c.requires.rows c.in_ok-dependents.ensures c.args.trail.now c.requires.objects

pub returns : goal.returns
returns c =
    let h = c.args.heap.now in
    let t = c.args.seg.now in
    let links = c.in_ok-dependents.dependents in
    IfOk-weaker c.walk.result
    (λ (end : Option ℕ). HasEnded (IsNode h t links) (EdgeBy h t) in_any_order (Some c.from.result)
    c.args.trail.now 0 c.walk.new.trail end)
    (WalksTo h t c.args.goal c.args.trail.now c.walk.new.trail)
    (λ end ended. record {
      links = links;
      ended = subst (λ (n : ℕ). HasEnded (IsNode h t links) (EdgeBy h t) in_any_order (Some n)
          c.args.trail.now 0 c.walk.new.trail end) c.from.ensures ended;
      objects = node_objects c.walk.new.trail (walked_nodes ended.walked
          (object_nodes c.requires.fields c.requires.rows c.in_ok-dependents.ensures c.args.trail.now
          c.requires.objects));
    }) c.walk.ensures
