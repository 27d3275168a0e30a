use Rattle.std.proofs.Common.{rules}
use Rattle.hd_turns.proofs.TableSteps.{looks}
use Rattle.hd_turns.proofs.gate.Gate.look_at.Goals as goal

pub load-found-requires : goal.load-found-requires
load-found-requires g c = (search rules, search rules, looks g.W.Turn.turn _ _ _)
