-- What a call returns over a source and a sink that never fail.
use Rattle.std.specs.Prelude.{◌≢◌, Option}
use Rattle.hd_io.specs.Still.{StillReading, StillWriting, still_source_view, still_sink_view}
use Rattle.hd_run.specs.{AuditClaims.AuditPromise, Claims.Promise, declared.outcome.Outcome.Outcome, declared.request.Request.Request}

-- Whatever the words, the status is neither that of a failed read nor that of a failed write.
abbrev pub NeverFails : Outcome → Type 0
NeverFails o = (o.status ≢ 4) × (o.status ≢ 5)

-- So it is over a `StillSource` and a `StillSink`, where a script is run, as `top`, `solo` or `roots`
-- promises, and where a text is judged, as `top` or `audit_mode` does.
pub record StillEndsNeverFail : Type 0 where
  pub runs : (asked : Option Request) (source : StillReading × StillReading)
      (sink : StillWriting × StillWriting) (o : Outcome)
      → Promise still_source_view still_sink_view asked source sink o → NeverFails o
  pub audits : (asked : Option Request) (source : StillReading × StillReading)
      (sink : StillWriting × StillWriting) (o : Outcome)
      → AuditPromise still_source_view still_sink_view asked source sink o → NeverFails o
