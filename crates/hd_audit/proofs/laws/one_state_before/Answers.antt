use Rattle.hd_audit.proofs.LinesBefore.{one_state_before}
use Rattle.hd_audit.proofs.laws.one_state_before.Goals as goal

pub returns : goal.returns
returns c = one_state_before
