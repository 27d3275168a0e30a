-- What is found in the input of `why`, its cause, and what is written of it.
use Rattle.std.specs.Prelude.{◌≡◌, ℕ, ◌+◌, List, [], ◌∷◌, ◌++◌, drop, take, ◌↔◌}
use Rattle.hd_io.specs.Sink.{SinkView}
use Rattle.hd_io.specs.Source.{SourceView}
use Rattle.hd_model.specs.declared.command.Cmd.{Cmd}
use Rattle.hd_model.specs.RunTexts.{AreRight, IsNoRun, IsRunText, cut_lines}
use Rattle.hd_model.specs.State.{Numbers}
use Rattle.hd_script.specs.AuditInput.{IsNoAuditInput}
use Rattle.hd_audit.specs.Before.{IsBefore}
use Rattle.hd_audit.specs.Known.{Known}
use Rattle.hd_run.specs.Audit.{IsJudged, right_text, wrong_text}
use Rattle.hd_run.specs.Bounds.{Bounds}
use Rattle.hd_run.specs.Ending.{CauseOfFault, ReadBytes}
use Rattle.hd_run.specs.Report.{IsReported, fault_status, fault_text}
use Rattle.hd_run.specs.declared.fault.Fault.TheVariants.{BadLine, NoMemory, OverSize, Unread, Usage}
use Rattle.hd_view.specs.Accepted.{AreDue, IsNamedLine}
use Rattle.hd_view.specs.Cause.{Holds}
use Rattle.hd_view.specs.WhyText.{why_text}
use Rattle.hd_view.specs.declared.accepted.Due.{Due}
use Rattle.hd_view.specs.declared.cause.Cause.{Cause}
use Rattle.hd_view.specs.declared.finding.Finding.{Finding}
use Rattle.hd_view.specs.declared.finding.Finding.TheVariants.{NoRun, Refused, Run}

-- ---- why a text is that of no run

-- in a run with these numbers and lists: after some lines the next one is the first that is not right, or is
-- missing; the lines that are named are exactly those with which the lines before are still right; and the
-- cause holds of the line
pub record IsWhy (n : Numbers) (lists : List (List Cmd)) (text written : List ℕ) : Type 0 where
  pub count : ℕ
  pub wrong : IsNoRun n lists text (count + 1)
  pub known : Known
  pub before : IsBefore n lists (take count (cut_lines text)) known
  pub rest_is : cut_lines known.rest ≡ drop count (cut_lines text)
  pub dues : List Due
  pub due : AreDue known dues
  pub named : (line : List ℕ)
      → AreRight n lists (take count (cut_lines text) ++ line ∷ []) ↔ IsNamedLine known dues line
  pub cause : Cause
  pub holds : Holds known cause
  pub is_written : written ≡ wrong_text (count + 1) ++ why_text known dues cause

-- in bytes; out of memory means nothing for them
abbrev pub FindsIn : Bounds → List ℕ → Finding → Type 0
FindsIn b bytes (Refused Usage) = ⊥
FindsIn b bytes (Refused Unread) = ⊥
FindsIn b bytes (Refused OverSize) = ⊥
FindsIn b bytes (Refused (BadLine k)) = IsNoAuditInput bytes k
FindsIn b bytes (Refused NoMemory) = Unit {0}
FindsIn b bytes Run = IsJudged b bytes IsRunText
FindsIn b bytes (NoRun written) = IsJudged b bytes (λ n lists text. IsWhy n lists text written)

-- in what a source gave
abbrev pub FoundCause : Bounds → SourceView → SourceView → Finding → Type 0
FoundCause b old new (Refused fault) = CauseOfFault IsNoAuditInput old new fault
FoundCause b old new Run = ReadBytes old new (λ bytes. FindsIn b bytes Run)
FoundCause b old new (NoRun written) = ReadBytes old new (λ bytes. FindsIn b bytes (NoRun written))

-- ---- what is written of it, as `hdt audit` writes it, and then why

abbrev pub found_status : Finding → ℕ
found_status (Refused fault) = fault_status fault
found_status Run = 0
found_status (NoRun written) = 7

abbrev pub found_text : Finding → List ℕ
found_text (Refused fault) = fault_text fault
found_text Run = right_text
found_text (NoRun written) = written

abbrev pub Reports : SinkView → SinkView → Finding → ℕ → Type 0
Reports old new found status = IsReported old new (found_status found) (found_text found) status
