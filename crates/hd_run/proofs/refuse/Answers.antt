use Rattle.hd_run.proofs.RunEndings.{fault_writable}
use Rattle.hd_run.proofs.refuse.Goals as goal

pub report-requires : goal.report-requires
report-requires g c = fault_writable _ c.args.fault
