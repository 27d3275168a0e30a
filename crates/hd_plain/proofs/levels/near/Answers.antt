use Rattle.std.proofs.Common.{arith}
use Rattle.std.proofs.lemmas.Option.{MatchOption-at_none, MatchOption-at_some}
use Rattle.hd_plain.proofs.RootLevels.{level_first, level_next, level_shortest, none_nearer}
use Rattle.hd_plain.proofs.levels.near.Goals as goal

pub loop-edges-init : goal.loop-edges-init
loop-edges-init c =
    level_first c.args.machine.now.state c.args.goal c.open-level.result c.mark.new.self c.open-level.ensures
    c.in_ok-mark.ensures

pub loop-edges-preserved : goal.loop-edges-preserved
loop-edges-preserved c =
    let s = c.args.machine.now.state in
    let inv = c.loop-edges.invariant in (
      level_next s c.args.goal c.loop-edges.edges c.loop-edges.level inv.0 c.in_ok-level.level
          c.in_ok-level.ensures,
      none_nearer s c.args.goal c.loop-edges.edges c.loop-edges.level inv.0 inv.1
          (MatchOption-at_none _ _ c.in_default.is c.in_ok-from.ensures),
    )

pub returns-in-Some-clause-shortest : goal.returns-in-Some-clause-shortest
returns-in-Some-clause-shortest c =
    let inv = c.loop-edges.invariant in
    level_shortest c.args.machine.now.state c.args.goal c.loop-edges.edges c.loop-edges.level inv.0 inv.1
    c.in-Some.from (MatchOption-at_some _ _ c.in-Some.from c.in-Some.is c.in_ok-from.ensures)

pub returns-in-Some-clause-few : goal.returns-in-Some-clause-few
returns-in-Some-clause-few c = omega (arith, c.loop-edges-test.true)
