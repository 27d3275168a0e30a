use Rattle.hd_host.proofs.OtherCallers.{no_context_is_of_two_ends}
use Rattle.hd_hostlaws.proofs.laws.no_context_is_of_two_ends.Goals as goal

pub returns : goal.returns
returns c = no_context_is_of_two_ends
