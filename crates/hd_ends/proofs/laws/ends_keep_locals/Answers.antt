use Rattle.hd_ends.proofs.EndLocals.{ends_keep_locals}
use Rattle.hd_ends.proofs.laws.ends_keep_locals.Goals as goal

pub returns : goal.returns
returns c = ends_keep_locals
