use Rattle.hd_path.proofs.RootPaths as laws
use Rattle.hd_path.proofs.laws.no_chain_is_unrooted.Goals as goal

pub returns : goal.returns
returns c = laws.no_chain_is_unrooted
