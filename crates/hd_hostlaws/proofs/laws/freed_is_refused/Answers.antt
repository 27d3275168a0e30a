use Rattle.hd_hostlaws.proofs.FreedHandles.{freed_is_refused}
use Rattle.hd_hostlaws.proofs.laws.freed_is_refused.Goals as goal

pub returns : goal.returns
returns c = freed_is_refused
