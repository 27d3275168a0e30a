use Rattle.hd_model.proofs.AnchorChains.{one_root}
use Rattle.hd_model.proofs.anchor_laws.root_is_one.Goals as goal

pub returns : goal.returns
returns c = one_root
