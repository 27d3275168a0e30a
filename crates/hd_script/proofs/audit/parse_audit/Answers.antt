use Rattle.hd_script.proofs.DividingLines.{fault_in_script}
use Rattle.hd_script.proofs.audit.parse_audit.Goals as goal

pub returns-in-Err-clause-line : goal.returns-in-Err-clause-line
returns-in-Err-clause-line c = fault_in_script c.in-Some.ensures.parts c.in-Err.fault c.in-Err.ensures.line
