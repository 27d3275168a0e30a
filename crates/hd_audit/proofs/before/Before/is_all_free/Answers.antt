use Rattle.hd_audit.proofs.JudgedLines.{well_formed}
use Rattle.hd_audit.proofs.before.Before.is_all_free.Goals as goal

pub is_all_free-requires : goal.is_all_free-requires
is_all_free-requires c = well_formed c.self.invariant.1
