use Rattle.hd_host.proofs.OtherCallers.{locals_are_as_left}
use Rattle.hd_hostlaws.proofs.laws.locals_are_as_left.Goals as goal

pub returns : goal.returns
returns c = locals_are_as_left
