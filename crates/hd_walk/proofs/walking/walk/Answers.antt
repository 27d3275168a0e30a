use Rattle.std.proofs.Common.{◌≡◌, ◌∙◌, length, refl, sym, arith}
use Rattle.hd_walk.specs.Walk.{HasWalked}
use Rattle.hd_walk.proofs.WalkTurns.{visit_longer, visit_nodes}
use Rattle.hd_walk.proofs.walking.walk.Goals as goal

pub turns-init : goal.turns-init
turns-init g c = record { nodes = c.requires.nodes; inside = c.requires.next; walked = HasWalked.none }

pub visit-requires : goal.visit-requires
visit-requires g c = record {
  node = c.turns.invariant.nodes c.turns.turn c.get-at.result c.get-at.ensures;
  turn = omega arith;
}

pub returns-then-is_goal : goal.returns-then-is_goal
returns-then-is_goal g c = record {
  turn = c.turns.turn;
  walked = c.turns.invariant.walked;
  ends = record {
    one = c.get-at.result;
    is_one = c.get-at.ensures;
    at_goal = sym c.is_goal.ensures ∙ c.if-is_goal.true;
    turn_is = refl;
  };
}

pub turns-preserved : goal.turns-preserved
turns-preserved g c = record {
  nodes = visit_nodes c.in_ok-visit.ensures c.turns.invariant.nodes;
  inside = let l = visit_longer c.in_ok-visit.ensures in omega arith;
  walked = HasWalked.more c.get-at.result c.turns.invariant.walked c.get-at.ensures
      (sym c.is_goal.ensures ∙ c.if-is_goal.false)
      c.in_ok-visit.ensures;
}

pub returns : goal.returns
returns g c = record {
  turn = c.turns.turn;
  walked = c.turns.invariant.walked;
  ends = let e : c.turns.turn ≡ length c.turns.trail = omega arith in e;
}
