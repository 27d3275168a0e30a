use Rattle.hd_hostlaws.proofs.LiveHandles.{live_names_the_same}
use Rattle.hd_hostlaws.proofs.laws.live_names_the_same.Goals as goal

pub returns : goal.returns
returns c = live_names_the_same
