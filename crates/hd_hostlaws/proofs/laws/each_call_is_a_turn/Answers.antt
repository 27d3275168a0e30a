use Rattle.hd_hostlaws.proofs.CallCases.{each_call_is_a_turn}
use Rattle.hd_hostlaws.proofs.laws.each_call_is_a_turn.Goals as goal

pub returns : goal.returns
returns c = each_call_is_a_turn
