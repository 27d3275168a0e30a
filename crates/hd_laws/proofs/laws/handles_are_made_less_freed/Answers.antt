use Rattle.hd_model.proofs.RunCounts.{handles_are_made_less_freed}
use Rattle.hd_laws.proofs.laws.handles_are_made_less_freed.Goals as goal

pub returns : goal.returns
returns c = handles_are_made_less_freed
