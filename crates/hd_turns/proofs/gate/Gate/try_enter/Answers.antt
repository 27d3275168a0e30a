use Rattle.std.proofs.Common.{subst, arith}
use Rattle.hd_turns.specs.Views.{Known, TakesTurn}
use Rattle.hd_turns.proofs.GateSteps.{takes_after}
use Rattle.hd_turns.proofs.gate.Gate.try_enter.Goals as goal

pub returns-in-Some-clause-won : goal.returns-in-Some-clause-won
returns-in-Some-clause-won g c =
    let W = g.row.W.Denot in
    let won = c.in-Some.ensures.won in (
      won.0,
      takes_after c.loop-look.look c.args.seat.now c.look.new.seat (omega (arith, c.loop-look-test.true))
          (subst (λ (k : Known W). TakesTurn g.W.Turn.turn 1 c.in-Some.number k c.look.new.seat)
          c.loop-look.invariant won.1),
    )
