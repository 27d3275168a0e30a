use Rattle.std.proofs.Common.{◌-◌, ◌^◌, ◌≤◌, length}
use Rattle.hd_walk.specs.Walk.{AreNodes, HasWalked}
use Rattle.hd_walk.proofs.walking.walk.Given as goal

abbrev pub invariant-turns : goal.invariant-turns
invariant-turns g l = record {
  nodes : AreNodes (g.E.Edges.node l.edges) l.trail;
  inside : l.turn ≤ length l.trail;
  walked : HasWalked (g.E.Edges.node l.edges) (g.E.Edges.edge l.edges) g.E.Edges.order l.goal l.initial.trail
      l.next l.trail l.turn;
}

abbrev pub decreases-turns : goal.decreases-turns
decreases-turns g l = 2 ^ 64 - l.turn
