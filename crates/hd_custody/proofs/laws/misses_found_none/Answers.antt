use Rattle.hd_custody.proofs.WholeMiss.{found_none}
use Rattle.hd_custody.proofs.laws.misses_found_none.Goals as goal

pub returns : goal.returns
returns g = found_none
