use Rattle.hd_path.proofs.RootPaths as laws
use Rattle.hd_path.proofs.laws.chains_begin_at_roots.Goals as goal

pub returns : goal.returns
returns c = laws.chains_begin_at_roots
