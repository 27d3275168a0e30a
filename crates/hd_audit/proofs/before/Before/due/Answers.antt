use Rattle.std.proofs.Common.{◌∙◌}
use Rattle.hd_audit.proofs.before.Before.due.Goals as goal

pub next-requires : goal.next-requires
next-requires c = c.self.invariant.1.each_done ∙ c.self.invariant.1.callers
