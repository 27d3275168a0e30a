use Rattle.hd_laws.proofs.ObjectReadBack.{joins_once}
use Rattle.hd_laws.proofs.laws.joins_once.Goals as goal

pub returns : goal.returns
returns c = joins_once
