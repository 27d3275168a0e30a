-- What an audit finds, its cause, and its report. The texts and the statuses are this project's own.
use Rattle.std.specs.Prelude.{◌≡◌, ℕ, ◌++◌, ◌⊎◌, List, codes, decimal, Option, None, Some}
use Rattle.hd_model.specs.{declared.command.Cmd.Cmd, RunTexts.IsRunText, RunTexts.IsNoRun, State.Numbers, Text.newline}
use Rattle.hd_io.specs.Sink.{SinkView}
use Rattle.hd_io.specs.Source.{SourceView}
use Rattle.hd_script.specs.AuditInput.{IsAuditInput, IsNoAuditInput}
use Rattle.hd_run.specs.{declared.audit.Finding.Finding, declared.outcome.Kept.TheVariants.Nothing, declared.outcome.Outcome.Outcome, declared.request.Request.Request, Bounds.Bounds, Bounds.numbers_for, Ending.CauseOfFault, Ending.ReadBytes, Report.IsReported, Report.fault_status, Report.fault_text}
use Rattle.hd_run.specs.declared.audit.Finding.TheVariants.{Refused, Right, WrongAt}
use Rattle.hd_run.specs.declared.fault.Fault.TheVariants.{Usage, NoMemory}

-- the bytes are a script, a dividing line and a text, and this is true of the text in a run within the
-- limits
pub record IsJudged (b : Bounds) (bytes : List ℕ) (Says : Numbers → List (List Cmd) → List ℕ → Type 0)
    : Type 0 where
  pub lists : List (List Cmd)
  pub text : List ℕ
  pub input : IsAuditInput bytes lists text
  pub says : Says (numbers_for b lists) lists text

-- the text is that of a run of the whole script
abbrev pub HasRun : Bounds → List ℕ → Type 0
HasRun b bytes = IsJudged b bytes IsRunText

-- it is not: this line of it is the first that is not right, or the one that is missing
abbrev pub HasNoRun : Bounds → List ℕ → ℕ → Type 0
HasNoRun b bytes line = IsJudged b bytes (λ n lists text. IsNoRun n lists text line)

-- ---- its cause

abbrev pub FindingCause : Bounds → SourceView → SourceView → Finding → Type 0
FindingCause b old new (Refused fault) = CauseOfFault IsNoAuditInput old new fault
FindingCause b old new Right = ReadBytes old new (HasRun b)
FindingCause b old new (WrongAt line) = ReadBytes old new (λ bytes. HasNoRun b bytes line)

-- by what the words ask for; words that ask for no audit are refused unread
abbrev pub AuditCause : Option Request → SourceView → SourceView → Finding → Type 0
AuditCause None old new finding =
    ((finding ≡ Refused Usage) ⊎ (finding ≡ Refused NoMemory)) × (new ≡ old)
AuditCause (Some r) old new finding = FindingCause r.limits old new finding

-- ---- its report

abbrev pub finding_status : Finding → ℕ
finding_status (Refused fault) = fault_status fault
finding_status Right = 0
finding_status (WrongAt line) = 7

abbrev pub right_text : List ℕ
right_text = codes "run yes" ++ newline

abbrev pub wrong_text : ℕ → List ℕ
wrong_text line = codes "run no " ++ decimal line ++ newline

abbrev pub finding_text : Finding → List ℕ
finding_text (Refused fault) = fault_text fault
finding_text Right = right_text
finding_text (WrongAt line) = wrong_text line

-- the finding is reported, and nothing is kept
pub record ReportsFinding (old new : SinkView) (finding : Finding) (o : Outcome) : Type 0 where
  pub kept : o.kept ≡ Nothing
  pub written : IsReported old new (finding_status finding) (finding_text finding) o.status
