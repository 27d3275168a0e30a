use Rattle.std.proofs.Common.{rules, arith}
use Rattle.hd_turns.proofs.GateSteps.{leaves_from}
use Rattle.hd_turns.proofs.gate.Gate.set_free.Goals as goal

pub store-requires : goal.store-requires
store-requires g c = (
  search rules,
  search rules,
  leaves_from g.W.Turn.turn _ _ c.args.turn _ c.args.place.now.me (omega arith) c.requires.number.0 c.requires.may,
)
