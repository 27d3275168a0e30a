use Rattle.std.proofs.Common.{rules}
use Rattle.hd_turns.proofs.TableSteps.{opens}
use Rattle.hd_turns.proofs.gate.Gate.open.Goals as goal

pub new-requires : goal.new-requires
new-requires g c = opens g.W.Turn.turn _ _ _ c.args.value (search rules) (search rules) (search rules)
