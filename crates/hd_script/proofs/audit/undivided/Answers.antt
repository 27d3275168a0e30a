use Rattle.hd_script.proofs.DividingLines.{fault_in_all, line_missing}
use Rattle.hd_script.proofs.audit.undivided.Goals as goal

pub returns-in-Err : goal.returns-in-Err
returns-in-Err c = fault_in_all c.args.bytes.now c.requires.none c.in-Err.fault c.in-Err.ensures.line

pub returns : goal.returns
returns c = line_missing c.args.bytes.now c.in_default.field-0 c.count_lines.result c.requires.none
    c.in_default.ensures.ok c.count_lines.ensures.count
