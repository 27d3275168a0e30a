use Rattle.hd_hostlaws.proofs.StaleHandles.{stale_is_exact}
use Rattle.hd_hostlaws.proofs.laws.stale_is_exact.Goals as goal

pub returns : goal.returns
returns c = stale_is_exact
