use Rattle.hd_show.proofs.KindSums.{kinds_add_up}
use Rattle.hd_show.proofs.laws.kinds_add_up.Goals as goal

pub returns : goal.returns
returns c = kinds_add_up
