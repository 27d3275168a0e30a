use Rattle.std.proofs.Common.{subst}
use Rattle.hd_turns.specs.Views.{Known, TakesTurn, handed_out}
use Rattle.hd_turns.specs.declared.gate.TheConstants.{LOOKS}
use Rattle.hd_turns.proofs.GateSteps.{handed}
use Rattle.hd_turns.proofs.end.End.try_enter.Goals as goal

pub returns-in-Some-clause-turned : goal.returns-in-Some-clause-turned
returns-in-Some-clause-turned g c =
    let W = g.row.W.Denot in
    let new = c.try_enter.new.seat in (
      c.in-Some.turn,
      subst (λ (k : Known W). TakesTurn g.W.Turn.turn LOOKS c.in-Some.turn k (record new { view = handed_out new.view }))
          c.self.view_is (handed c.self.inside.seat new c.in-Some.ensures.won.1),
    )
