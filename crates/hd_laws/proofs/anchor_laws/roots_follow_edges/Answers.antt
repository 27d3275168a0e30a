use Rattle.hd_model.proofs.RootChains.{roots_follow_edges}
use Rattle.hd_laws.proofs.anchor_laws.roots_follow_edges.Goals as goal

pub returns : goal.returns
returns c = roots_follow_edges
