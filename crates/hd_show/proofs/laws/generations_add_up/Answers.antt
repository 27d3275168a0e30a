use Rattle.hd_show.proofs.GenerationSums.{generations_add_up}
use Rattle.hd_show.proofs.laws.generations_add_up.Goals as goal

pub returns : goal.returns
returns c = generations_add_up
