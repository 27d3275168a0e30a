-- What the program prints of a whole run in full lines is a text that it judges to be that of a run.
use Rattle.std.specs.Prelude.{◌≡◌, ◌⊎◌, ℕ, ◌≤◌, Bool, true, List, ◌++◌, length, Some}
use Rattle.hd_model.specs.{declared.command.Cmd.Cmd, declared.limits.TheConstants.MOST_BYTES, FullText.full_text_of, State.Numbers}
use Rattle.hd_io.specs.{Counts.Rose, Source.SourceView, Sink.SinkView}
use Rattle.hd_script.specs.AuditInput.{IsDivided}
use Rattle.hd_audit.specs.RightVerdicts.{IsRight}
use Rattle.hd_audit.specs.declared.lines.Verdict.{Verdict}
use Rattle.hd_audit.specs.declared.lines.Verdict.TheVariants.{Run, Memory}
use Rattle.hd_print.specs.declared.entries.Form.TheVariants.{Full}
use Rattle.hd_run.specs.{declared.ending.Ran.Ran, declared.mode.Output.TheVariants.Lines, declared.outcome.Outcome.Outcome, declared.request.Request.Request, AuditClaims.ProgramPromise, Ending.RanBy, Ending.world_that, Modes.output_of, Modes.traits_of}

-- No right verdict on the full text of what ran a whole script, callers in turn or in threads, is that it is
-- no run.
abbrev pub WholeRunsAreJudgedRuns : Type 0
WholeRunsAreJudgedRuns =
    (threads : Bool) (n : Numbers) (lists : List (List Cmd)) (ran : Ran) (verdict : Verdict)
    → RanBy threads n lists ran
    → IsRight n lists (full_text_of (world_that ran).journal (world_that ran).state) verdict
    → (verdict ≡ Run) ⊎ (verdict ≡ Memory)

-- A call of the program with words for full lines read this script, returned status 0, and added this text to
-- what was written.
pub record PrintsRun {S K : Type 0} (seen : S → SourceView) (shown : K → SinkView) (r : Request)
    (script text : List ℕ) : Type 0 where
  pub source : S × S
  pub sink : K × K
  pub outcome : Outcome
  pub promise : ProgramPromise seen shown (Some r) source sink outcome
  pub full : output_of r ≡ Lines Full
  pub done : outcome.status ≡ 0
  pub given : (seen source.0).left ≡ Some script
  pub before : List ℕ
  pub begin : (shown sink.0).written ≡ Some before
  pub printed : (shown sink.1).written ≡ Some (before ++ text)

-- A call of the program with words for an audit is given this script, a dividing line and this text, of few
-- enough bytes, nothing fails in it, and it returns this status.
pub record JudgesText {S K : Type 0} (seen : S → SourceView) (shown : K → SinkView) (r : Request)
    (script text : List ℕ) (status : ℕ) : Type 0 where
  pub source : S × S
  pub sink : K × K
  pub outcome : Outcome
  pub promise : ProgramPromise seen shown (Some r) source sink outcome
  pub judges : (traits_of r.mode).judges ≡ true
  pub bytes : List ℕ
  pub given : (seen source.0).left ≡ Some bytes
  pub few : length bytes ≤ MOST_BYTES
  pub divided : IsDivided bytes script text
  pub read : ¬ (Rose (seen source.0).faults (seen source.1).faults)
  pub written : ¬ (Rose (shown sink.0).faults (shown sink.1).faults)
  pub returned : outcome.status ≡ status

-- What the program printed of a whole run, in full lines, it judges to be a run of its script within the same
-- limits, unless memory runs out.
abbrev pub PrintedRunsAreJudgedRuns : {S K : Type 0} → (S → SourceView) → (K → SinkView) → Type 0
PrintedRunsAreJudgedRuns seen shown =
    (r q : Request) (script text : List ℕ) (status : ℕ) → PrintsRun seen shown r script text
    → JudgesText seen shown q script text status → q.limits ≡ r.limits → (status ≡ 0) ⊎ (status ≡ 6)
