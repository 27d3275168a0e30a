-- What the status of a dialogue says.
use Rattle.std.specs.Prelude.{◌≡◌, ℕ, Bool, if◌then◌else◌}
use Rattle.hd_io.specs.Sink.{SinkView}
use Rattle.hd_io.specs.Source.{SourceView}
use Rattle.hd_model.specs.State.{Numbers}
use Rattle.hd_step.specs.declared.stop.Stop.{Stop}
use Rattle.hd_step.specs.declared.stop.Stop.TheVariants as stop
use Rattle.hd_step.specs.Ending.{Conversed, StoppedIn}
use Rattle.hd_talk.specs.Answers.{Answers, HasFault}

-- the status of an early end
abbrev pub stop_status : Stop → ℕ
stop_status stop.TooLong = 3
stop_status stop.Unread = 4
stop_status stop.Unwritten = 5
stop_status stop.Memory = 6

-- a dialogue to its end, with 3 where a line was bad; one that stopped; or none, where there was no memory to
-- begin with
pub data Talked (n : Numbers) (source after : SourceView) (out new : SinkView) (status : ℕ) : Type 0 where
  ended : (bad : Bool) → Conversed Answers HasFault n source after out new bad → status ≡ (if bad then 3 else 0)
      → Talked n source after out new status
  stopped : (why : Stop) → StoppedIn Answers HasFault n source after out new why → status ≡ stop_status why
      → Talked n source after out new status
  unopened : after ≡ source → new ≡ out → status ≡ 6 → Talked n source after out new status
