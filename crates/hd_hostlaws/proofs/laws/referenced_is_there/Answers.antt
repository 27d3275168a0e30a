use Rattle.hd_hostlaws.proofs.FirstHosts.{referenced_is_there}
use Rattle.hd_hostlaws.proofs.laws.referenced_is_there.Goals as goal

pub returns : goal.returns
returns c = referenced_is_there
