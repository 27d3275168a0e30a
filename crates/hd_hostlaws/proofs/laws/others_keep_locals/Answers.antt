use Rattle.hd_host.proofs.OtherCallers.{others_keep_locals}
use Rattle.hd_hostlaws.proofs.laws.others_keep_locals.Goals as goal

pub returns : goal.returns
returns c = others_keep_locals
