use Rattle.std.proofs.Common.{◌∙◌}
use Rattle.hd_step.proofs.Talks.{ended, end_broke}
use Rattle.hd_step.proofs.session.converse.Goals as goal

pub returns-in-Ok-clause-done : goal.returns-in-Ok-clause-done
returns-in-Ok-clause-done g c =
    ended c.in_ok-is_bad.ensures.done _ c.as_bytes.result.now (c.as_bytes.ensures ∙ c.end_line.ensures)
    c.in-Ok.ensures.all

pub returns-in-Err-clause-stopped : goal.returns-in-Err-clause-stopped
returns-in-Err-clause-stopped g c =
    end_broke c.in_ok-is_bad.ensures.done _ c.as_bytes.result.now (c.as_bytes.ensures ∙ c.end_line.ensures)
    c.in-Err.ensures.broke_off
