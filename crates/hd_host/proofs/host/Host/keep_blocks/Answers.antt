use Rattle.hd_host.specs.Changes.{no_change}
use Rattle.hd_host.proofs.PairTrimmed.{but_cleared}
use Rattle.hd_host.proofs.host.Host.keep_blocks.Goals as goal

pub returns-clause-same : goal.returns-clause-same
returns-clause-same c = but_cleared _ _ _ no_change c.self.view_is
