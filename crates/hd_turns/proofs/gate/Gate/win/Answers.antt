use Rattle.std.proofs.Common.{rules}
use Rattle.hd_turns.proofs.TableSteps.{enters}
use Rattle.hd_turns.proofs.gate.Gate.win.Goals as goal

pub compare_exchange-before-requires : goal.compare_exchange-before-requires
compare_exchange-before-requires g c = (search rules, search rules, enters g.W.Turn.turn _ _ _ _ c.requires.free)
