-- What a call that judges a text promises, in the words of a user; and which promise the program makes.
use Rattle.std.specs.Prelude.{◌≡◌, ◌≢◌, ℕ, ◌+◌, ◌<◌, ◌≤◌, ◌⊎◌, Bool, true, false, List, [], ◌∷◌, length, Contains, Option, None, Some, IfSome, IsSomeAnd}
use Rattle.hd_model.specs.declared.limits.TheConstants.{MOST_BYTES}
use Rattle.hd_io.specs.{Counts.Rose, Source.SourceView, Source.GaveCount, Sink.SinkView, Sink.Took}
use Rattle.hd_script.specs.AuditInput.{IsNoAuditInput}
use Rattle.hd_run.specs.{declared.audit.Finding.Finding, declared.outcome.Kept.TheVariants.Nothing, declared.outcome.Outcome.Outcome, declared.request.Request.Request, Bounds.Bounds, Claims.Promise, Ending.ReadBytes, Modes.traits_of, Report.fault_text, Report.memory_text}
use Rattle.hd_run.specs.declared.fault.Fault.TheVariants.{OverSize, BadLine}
use Rattle.hd_run.specs.Audit.{HasRun, HasNoRun, AuditCause, ReportsFinding, right_text, wrong_text}

-- words that are valid and name a mode that judges
abbrev pub AsksToJudge : Option Request → Type 0
AsksToJudge asked = IsSomeAnd asked (λ r. Unit {0})

-- bytes that are refused: too many, or one of their lines is at fault, or missing
abbrev pub IsInputRefused : List ℕ → Type 0
IsInputRefused bytes = (MOST_BYTES < length bytes) ⊎ ((line : ℕ) × IsNoAuditInput bytes line)

-- the source gave one byte more than the limit; or it was read to its end, and a line that is at fault, or
-- missing, is named
abbrev pub RefusesInput : SourceView → SourceView → SinkView → SinkView → Type 0
RefusesInput old new before after =
    (GaveCount old new (λ n. n ≡ MOST_BYTES + 1) × Took before after (fault_text OverSize))
    ⊎ ((line : ℕ) × ReadBytes old new (λ bytes. IsNoAuditInput bytes line)
    × Took before after (fault_text (BadLine line)))

-- what was read where memory ran out: at most the limit of bytes, and nothing where no audit is asked for
abbrev pub ReadFew : Option Request → SourceView → SourceView → Type 0
ReadFew None old new = new ≡ old
ReadFew (Some r) old new = GaveCount old new (λ n. n ≤ MOST_BYTES)

-- of bytes that were left the status is 3 where they are refused, and else 0 where their text is that of a
-- run and 7 where it is not, unless memory ran out
abbrev pub JudgesTo : Bounds → List ℕ → ℕ → Type 0
JudgesTo b bytes status = status ≢ 6 → ((status ≡ 3) × IsInputRefused bytes)
    ⊎ (¬ (IsInputRefused bytes)
    × (((status ≡ 0) × HasRun b bytes) ⊎ ((status ≡ 7) × ((line : ℕ) × HasNoRun b bytes line))))

-- What a call that judges promises, for what its words ask (`None`: they are not valid, or ask for another
-- mode), by what was seen of the source and the sink, each before it and after it.
pub record AuditPromise {S K : Type 0} (seen : S → SourceView) (shown : K → SinkView)
    (asked : Option Request) (source : S × S) (sink : K × K) (o : Outcome) : Type 0 where
  -- whatever the words and the bytes: something was found with a cause, and is reported
  pub work : (finding : Finding) × AuditCause asked (seen source.0) (seen source.1) finding
      × ReportsFinding (shown sink.0) (shown sink.1) finding o
  -- on status 0 the text is that of a run of the whole script, and this is written
  pub right : o.status ≡ 0 →
      IsSomeAnd asked (λ r. ReadBytes (seen source.0) (seen source.1) (HasRun r.limits))
      × Took (shown sink.0) (shown sink.1) right_text
  -- on status 7 it is not, and the first line that is not right, or the one that is missing, is written
  pub wrong : o.status ≡ 7 → (line : ℕ)
      × IsSomeAnd asked (λ r. ReadBytes (seen source.0) (seen source.1)
      (λ bytes. HasNoRun r.limits bytes line))
      × Took (shown sink.0) (shown sink.1) (wrong_text line)
  -- each other status has a cause, and no other is returned
  pub usage : o.status ≡ 2 → asked ≡ None
  pub script : o.status ≡ 3 → AsksToJudge asked
      × RefusesInput (seen source.0) (seen source.1) (shown sink.0) (shown sink.1)
  pub read : o.status ≡ 4 → AsksToJudge asked × Rose (seen source.0).faults (seen source.1).faults
  pub write : o.status ≡ 5 → Rose (shown sink.0).faults (shown sink.1).faults
  pub memory : o.status ≡ 6 → ReadFew asked (seen source.0) (seen source.1)
      × Took (shown sink.0) (shown sink.1) memory_text
  pub statuses : Contains (0 ∷ 2 ∷ 3 ∷ 4 ∷ 5 ∷ 6 ∷ 7 ∷ []) o.status
  -- no fault of the source or the sink is passed over
  pub source_faults : o.status ≢ 4 → o.status ≢ 5 →
      (seen source.1).faults ≡ (seen source.0).faults
  pub sink_faults : o.status ≢ 5 → (shown sink.1).faults ≡ (shown sink.0).faults
  -- words that are not valid are refused, though that may fail to be written, and nothing is read; memory
  -- may run out before
  pub words : asked ≡ None →
      (source.1 ≡ source.0) × ((o.status ≡ 2) ⊎ (o.status ≡ 5) ⊎ (o.status ≡ 6))
  -- of valid words, where nothing failed and the source states its bytes
  pub decides : IfSome asked (λ r. ¬ (Rose (seen source.0).faults (seen source.1).faults) →
      ¬ (Rose (shown sink.0).faults (shown sink.1).faults) →
      (bytes : List ℕ) → (seen source.0).left ≡ Some bytes → JudgesTo r.limits bytes o.status)
  -- whatever the status, nothing is kept
  pub nothing : o.kept ≡ Nothing

-- ---- the program

-- whether words are valid and name a mode that judges
abbrev pub judges : Option Request → Bool
judges None = false
judges (Some r) = (traits_of r.mode).judges

abbrev pub ByMode : Bool → Type 0 → Type 0 → Type 0
ByMode true Judges Runs = Judges
ByMode false Judges Runs = Runs

-- what the program promises, by the mode that its words name
abbrev pub ProgramPromise : {S K : Type 0} → (S → SourceView) → (K → SinkView) → Option Request → S × S
    → K × K → Outcome → Type 0
ProgramPromise seen shown asked source sink o = ByMode (judges asked)
    (AuditPromise seen shown asked source sink o) (Promise seen shown asked source sink o)
